-- Two kinds of number whose operations keep a relation, and two kinds of entry. What is folded in turn keeps it. Assumes nothing.
use Rattle.std.proofs.Common.{◌≡◌, refl, ap₂, List, ℕ, zero, suc, ◌+◌, ◌≤◌, ◌<◌, le_refl, arith}
use Rattle.calculus.specs.Kind.{Kind, Module, regular}
use Rattle.calculus.specs.InTurn.{in_turn, in_rows, along_list}
use Rattle.partitions.proofs.Lists.{Every, nil, and}

pub record Related {A B : Type 0} (R : A → B → Type 0) (K : Kind A) (L : Kind B) : Type 0 where
  pub zero : R K.zero L.zero
  pub one : R K.one L.one
  pub plus : (a c : A) (b d : B) → R a b → R c d → R (K.plus a c) (L.plus b d)
  pub minus : (a c : A) (b d : B) → R a b → R c d → R (K.minus a c) (L.minus b d)
  pub times : (a c : A) (b d : B) → R a b → R c d → R (K.times a c) (L.times b d)
  pub over : (a c : A) (b d : B) → R a b → R c d → R (K.over a c) (L.over b d)
  pub of_nat : (n : ℕ) → R (K.of_nat n) (L.of_nat n)

-- P relates the scalars, and R the entries. A quotient of scalars is not asked for
pub record RelatedModules {S T A B : Type 0} (P : S → T → Type 0) (R : A → B → Type 0) (M : Module S A) (N : Module T B) : Type 0 where
  pub zero : R M.zero N.zero
  pub plus : (a c : A) (b d : B) → R a b → R c d → R (M.plus a c) (N.plus b d)
  pub minus : (a c : A) (b d : B) → R a b → R c d → R (M.minus a c) (N.minus b d)
  pub scale : (a : A) (s : S) (b : B) (t : T) → R a b → P s t → R (M.scale a s) (N.scale b t)
  pub one : P M.scalars.one N.scalars.one
  pub times : (a c : S) (b d : T) → P a b → P c d → P (M.scalars.times a c) (N.scalars.times b d)
  pub of_nat : (n : ℕ) → P (M.scalars.of_nat n) (N.scalars.of_nat n)

pub regulars : {A B : Type 0} {R : A → B → Type 0} {K : Kind A} {L : Kind B} → Related R K L → RelatedModules R R (regular K) (regular L)
regulars r = record { zero = r.zero; plus = r.plus; minus = r.minus; scale = r.times; one = r.one; times = r.times; of_nat = r.of_nat }

-- jets whose entries are related up to the order n
module _ {A B : Type 0} (R : A → B → Type 0) where
  abbrev pub CurvesAlike : ℕ → (ℕ → A) → (ℕ → B) → Type 0
  CurvesAlike n a b = (i : ℕ) → i ≤ n → R (a i) (b i)

  abbrev pub SurfacesAlike : ℕ → (ℕ → ℕ → A) → (ℕ → ℕ → B) → Type 0
  SurfacesAlike n a b = (i j : ℕ) → i + j ≤ n → R (a i j) (b i j)

-- every operation keeps equality
pub same : {A : Type 0} (K : Kind A) → Related (λ (a b : A). a ≡ b) K K
same K = record {
  zero = refl;
  one = refl;
  plus = λ a c b d p q. ap₂ K.plus p q;
  minus = λ a c b d p q. ap₂ K.minus p q;
  times = λ a c b d p q. ap₂ K.times p q;
  over = λ a c b d p q. ap₂ K.over p q;
  of_nat = λ n. refl;
}

pub same_module : {S A : Type 0} (M : Module S A) → RelatedModules (λ (s t : S). s ≡ t) (λ (a b : A). a ≡ b) M M
same_module M = record {
  zero = refl;
  plus = λ a c b d p q. ap₂ M.plus p q;
  minus = λ a c b d p q. ap₂ M.minus p q;
  scale = λ a s b t p q. ap₂ M.scale p q;
  one = refl;
  times = λ a c b d p q. ap₂ M.scalars.times p q;
  of_nat = λ n. refl;
}

-- ---- folds of an operation that keeps the relation, over terms that are related
module _ {A B C D : Type 0} (R : A → B → Type 0) (Q : C → D → Type 0) (op : A → C → A) (oq : B → D → B)
    (keeps : (a : A) (c : C) (b : B) (d : D) → R a b → Q c d → R (op a c) (oq b d)) where
  pub in_turn-alike : {x : A} {y : B} (f : ℕ → C) (g : ℕ → D) (n : ℕ) → R x y → ((i : ℕ) → i < n → Q (f i) (g i)) → R (in_turn op x f n) (in_turn oq y g n)
  unfolding in_turn
  in_turn-alike f g zero e h = e
  in_turn-alike f g (suc n) e h = keeps _ _ _ _ (in_turn-alike f g n e (λ i l. h i (omega arith))) (h n (le_refl (suc n)))

  pub in_rows-alike : {x : A} {y : B} (f : ℕ → ℕ → C) (g : ℕ → ℕ → D) (m n : ℕ) → R x y →
      ((i j : ℕ) → i < m → j < n → Q (f i j) (g i j)) → R (in_rows op x f m n) (in_rows oq y g m n)
  unfolding in_rows
  in_rows-alike f g zero n e h = e
  in_rows-alike f g (suc m) n e h =
      in_turn-alike (f m) (g m) n (in_rows-alike f g m n e (λ i j l k. h i j (omega arith) k)) (λ j k. h m j (le_refl (suc m)) k)

  -- the recursion goes through every start, so the property of the lists comes first
  along_list-keeps : {P : List ℕ → Type 0} {x : A} {y : B} (f : List ℕ → C) (g : List ℕ → D) {ls : List (List ℕ)} → R x y →
      Every P ls → ((l : List ℕ) → P l → Q (f l) (g l)) → R (along_list op x f ls) (along_list oq y g ls)
  unfolding along_list
  along_list-keeps f g e nil h = e
  along_list-keeps {x = x} {y = y} f g e (and {x = l} p ps) h =
      along_list-keeps {x = op x (f l)} {y = oq y (g l)} f g (keeps _ _ _ _ e (h _ p)) ps h

  pub along_list-alike : {x : A} {y : B} {P : List ℕ → Type 0} (f : List ℕ → C) (g : List ℕ → D) {ls : List (List ℕ)} → R x y →
      Every P ls → ((l : List ℕ) → P l → Q (f l) (g l)) → R (along_list op x f ls) (along_list oq y g ls)
  along_list-alike f g e ps h = along_list-keeps f g e ps h
