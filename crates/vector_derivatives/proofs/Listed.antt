-- A loop that writes vectors in turn into a list, x, y and z of each. Assumes nothing.
use Rattle.std.proofs.Common.{◌≡◌, ◌∷◌, List, Float, ℕ, suc, ◌+◌, ◌*◌, ◌<◌, length, set, refl, ap, arith, subst}
use Rattle.ieee_vectors.specs.declared.Vector3.{Vector3}
use Rattle.calculus.proofs.LoopWriting.{Writing, writing-goes-on}
use Rattle.vector_formulas.specs.Vector.{put, flat}
use Rattle.vector_formulas.proofs.Vectors.{flat-length}

module _ (all : List Float) {out : List Float} {v : Vector3} {left more : List Vector3} (l : ℕ) (w : Writing all out (flat left) (3 * l)) (e : left ≡ v ∷ more) where
  pub three-in-list : 3 * l + 2 < length out
  three-in-list =
      let n : length left ≡ suc (length more) = ap length e in
      omega (arith, w.room, flat-length left)

  pub three-more : {q : List Float} → q ≡ put out (3 * l) v → Writing all q (flat more) (3 * (l + 1))
  unfolding flat
  three-more g =
      let p : 3 * l + 1 + 1 ≡ 3 * l + 2 = omega arith in
      let q : 3 * l + 2 + 1 ≡ 3 * (l + 1) = omega arith in
      rw g
      (subst (λ (x : ℕ). Writing all (put out (3 * l) v) (flat more) x) q
      (writing-goes-on all
      (subst (λ (x : ℕ). Writing all (set (set out (3 * l) v.x) (3 * l + 1) v.y) (v.z ∷ flat more) x) p
      (writing-goes-on all (writing-goes-on all w (ap flat e)) refl)) refl))
