-- Jets that agree up to an order give quotients and norms that agree up to it: the relational laws at equality. Assumes nothing.
use Rattle.std.proofs.Common.{◌≡◌, ap, ap₂, ℕ}
use Rattle.calculus.specs.Kind.{Kind, Module}
use Rattle.calculus.proofs.Related.{same, same_module}
use Rattle.calculus.proofs.UpTo.{CurvesAgree, SurfacesAgree}
use Rattle.calculus.specs.Rational.{rational, surface_rational}
use Rattle.calculus.specs.Norm.{norm, surface_norm}
use Rattle.calculus.proofs.Quotients.{rational-alike, surface_rational-alike}
use Rattle.calculus.proofs.Norms.{norm-alike, surface_norm-alike}

abbrev Eq : {A : Type 0} → A → A → Type 0
Eq a b = a ≡ b

module _ {S A : Type 0} (M : Module S A) (over : A → S → A) (n : ℕ) where
  pub rational-upto : {x y : ℕ → A} {w v : ℕ → S} → CurvesAgree n x y → CurvesAgree n w v → CurvesAgree n (rational M over x w) (rational M over y v)
  rational-upto {x} {y} {w} {v} = rational-alike Eq Eq M M (same_module M) over over (λ a s b t p q. ap₂ over p q) n x y w v

  pub surface_rational-upto : {x y : ℕ → ℕ → A} {w v : ℕ → ℕ → S} → SurfacesAgree n x y → SurfacesAgree n w v →
      SurfacesAgree n (surface_rational M over x w) (surface_rational M over y v)
  surface_rational-upto {x} {y} {w} {v} = surface_rational-alike Eq Eq M M (same_module M) over over (λ a s b t p q. ap₂ over p q) n x y w v

module _ {S A : Type 0} (K : Kind S) (root : S → S) (dot : A → A → S) (n : ℕ) where
  pub norm-upto : {s t : ℕ → A} → CurvesAgree n s t → CurvesAgree n (norm K root dot s) (norm K root dot t)
  norm-upto {s} {t} = norm-alike Eq Eq K K (same K) root root (λ s t p. ap root p) dot dot (λ a c b d p q. ap₂ dot p q) n s t

  pub surface_norm-upto : {s t : ℕ → ℕ → A} → SurfacesAgree n s t → SurfacesAgree n (surface_norm K root dot s) (surface_norm K root dot t)
  surface_norm-upto {s} {t} = surface_norm-alike Eq Eq K K (same K) root root (λ s t p. ap root p) dot dot (λ a c b d p q. ap₂ dot p q) n s t
