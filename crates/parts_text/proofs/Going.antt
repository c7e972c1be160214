-- The walk over the lists of a pair, as their lines are written: what has been written is the lines of the lists handed out. Assumes nothing.
use Rattle.std.proofs.Common.{◌⊎◌, inl, inr, ◌≡◌, refl, sym, ◌∙◌, ap, ap₂, true, List, [], ◌∷◌, ◌++◌, append_assoc, append-nil, ℕ, ◌<◌, arith, length, take, Some, None, Result, Ok, Err}
use Rattle.partitions.specs.Parts.{lists, multiplicity}
use Rattle.partitions.specs.Count.{counted, total_count}
use Rattle.refusals.specs.declared.Refusal.{Refusal}
use Rattle.refusals.specs.Number.{number}
use Rattle.partitions.specs.Walk.{tested, started, started_by, stepped, remaining, moved}
use Rattle.partitions.specs.declared.CompositionIter.{CompositionIter}
use Rattle.partitions.specs.declared.Stepped.{Stepped}
use Rattle.partitions.proofs.Walked.{started-is, started-range, is-first, all-remain, moved-remains, moved-end, some-list, first-shown, first-counted, stepped-first, stepped-end, step_gives, step-ends}
use Rattle.part_counts.specs.Total.{total_of}
use Rattle.part_counts.proofs.Total.{total-listed}
use Rattle.parts_text.specs.declared.out.Text.{Text}
use Rattle.parts_text.specs.declared.Reading.{Reading}
use Rattle.parts_text.specs.declared.Reading.TheVariants.{Before, InOrder, AfterOrder, InLen, AfterLen, Malformed}
use Rattle.parts_text.specs.Reading.{finished}
use Rattle.parts_text.specs.Text.{decimal, joined, spaced, newline, line, total_line, refused_line, text, unless, answer}
use Rattle.parts_text.specs.Inner.{puts, or_nothing, listed}
use Rattle.parts_text.proofs.Puts.{puts_none, after, joined-append, joined-one}

-- ---- a pair's text, of which its lists are written where it has some, and else its refusal follows
pub pair-lists : (order len : ℕ) (p : Text) {q : Text} → tested order len ≡ Ok tt → q ≡ puts p (listed order len) → q ≡ puts p (answer order len)
unfolding listed answer
pair-lists order len p e f = f ∙ ap (λ t. puts p (or_nothing t (text (lists order len)))) e ∙ ap (λ t. puts p (unless t (text (lists order len)))) (sym e)

pub pair-refused : (order len : ℕ) (p : Text) (r : Refusal) {q v : Text} → tested order len ≡ Err r → q ≡ puts p (listed order len) →
    v ≡ puts q (refused_line (number r)) → v ≡ puts p (answer order len)
unfolding listed answer
pair-refused order len p r e f g =
    after p [] (refused_line (number r)) (f ∙ ap (λ t. puts p (or_nothing t (text (lists order len)))) e) g
    ∙ ap (λ t. puts p (unless t (text (lists order len)))) (sym e)

-- which pair is printed, and of which readings none is
pub pair-of : (s : Reading) (a b : ℕ) → (s ≡ InLen a b) ⊎ (s ≡ AfterLen a b) → answer a b ≡ finished s
pair-of s a b (inl e) = ap finished (sym e)
pair-of s a b (inr e) = ap finished (sym e)

pub no-pair : (s : Reading) → ((v w : ℕ) → s ≡ InLen v w → ⊥) → ((v w : ℕ) → s ≡ AfterLen v w → ⊥) → finished s ≡ refused_line 2
no-pair Before f g = refl
no-pair (InOrder v) f g = refl
no-pair (AfterOrder v) f g = refl
no-pair (InLen v w) f g = absurd (f v w refl)
no-pair (AfterLen v w) f g = absurd (g v w refl)
no-pair Malformed f g = refl

-- ---- the walk of the pair, its lines written after what stood in p₀
pub record Going (order len : ℕ) (p₀ : Text) (w : CompositionIter) (p : Text) : Type 0 where
  pub done : List (List ℕ)
  pub range : tested order len ≡ Ok tt
  pub order_is : w.order ≡ order
  pub len_is : w.len ≡ len
  pub at-end : remaining w ≡ [] → w.end ≡ true
  pub split : lists order len ≡ done ++ remaining w
  pub wrote : p ≡ puts p₀ (joined line done)

-- where the pair is refused, nothing is written
pub start-refused : (order len : ℕ) (p : Text) (r : Refusal) → started order len ≡ Err r → (Err r ≡ tested order len) × (p ≡ puts p (listed order len))
unfolding started listed
start-refused order len p r e = by (tested order len) refl
  where
    by : (t : Result (Unit {0}) Refusal) → tested order len ≡ t → (Err r ≡ tested order len) × (p ≡ puts p (or_nothing (tested order len) (text (lists order len))))
    by (Ok u) f = let s = started-is order len f in absurd (cc)
    by (Err q) f =
        let s = sym e ∙ ap (started_by order len) f in
        let z : Err r ≡ tested order len = cc in
        (z, puts_none p ∙ ap (λ t. puts p (or_nothing t (text (lists order len)))) (sym f))

pub going_start : (order len : ℕ) (p : Text) (w : CompositionIter) → started order len ≡ Ok w → Going order len p w p
unfolding joined
going_start order len p w e =
    let s = is-first order len w e in
    let r = all-remain order len w e in
    record {
      done = [];
      range = started-range order len w e;
      order_is = ap (λ (x : CompositionIter). x.order) s;
      len_is = ap (λ (x : CompositionIter). x.len) s;
      at-end = λ g. absurd (some-list order len (started-range order len w e) (sym r ∙ g));
      split = sym r;
      wrote = puts_none p;
    }

module _ {order len : ℕ} {p₀ : Text} {w : CompositionIter} {p : Text} (g : Going order len p₀ w p) where
  walk-range : tested w.order w.len ≡ Ok tt
  walk-range = ap₂ tested g.order_is g.len_is ∙ g.range

  -- a step of the walk is never refused
  pub taken : (r : Refusal) → (stepped w).item ≡ Err r → ⊥
  taken r e = go (remaining w) refl
    where
      go : (ls : List (List ℕ)) → remaining w ≡ ls → ⊥
      go [] f = let s = ap (λ (x : Stepped). x.item) (stepped-end w walk-range (g.at-end f)) in cc
      go (l ∷ ls) f = let s = ap (λ (x : Stepped). x.item) (stepped-first w l ls walk-range f) in cc

  -- the total is answered
  pub totalled : (r : Refusal) → total_of order len ≡ Err r → ⊥
  totalled r e = let t = total-listed order len g.range in cc

  -- the end: all the lines are written, and then the total
  pub going_end : {p' : Text} {n : ℕ} → (stepped w).item ≡ Ok None → total_of order len ≡ Ok n → p' ≡ puts p (total_line n) → p' ≡ puts p₀ (listed order len)
  unfolding listed
  going_end {n = n} e a t =
      let total : n ≡ total_count (lists order len) = let s = total-listed order len g.range in cc in
      let d : g.done ≡ lists order len = sym (append-nil g.done) ∙ ap (λ (x : List (List ℕ)). g.done ++ x) (sym (step-ends w e)) ∙ sym g.split in
      after p₀ (joined line g.done) (total_line n) g.wrote t
      ∙ ap (puts p₀) (ap₂ (λ (ls : List (List ℕ)) (n : ℕ). joined line ls ++ total_line n) d total
      ∙ ap (λ t. or_nothing t (text (lists order len))) (sym g.range))

  -- the list that the step hands out, and the others
  pub record Next (parts : List ℕ) (v : CompositionIter) : Type 0 where
    pub list : List ℕ
    pub others : List (List ℕ)
    pub remain : remaining w ≡ list ∷ others
    pub moves : v ≡ moved w others
    pub front : take len parts ≡ list
    pub count : counted (take len parts) ≡ Ok (multiplicity list)

  pub next : {parts : List ℕ} {v : CompositionIter} → (stepped w).item ≡ Ok (Some parts) → v ≡ (stepped w).walk → Next parts v
  next {parts = parts} e f =
      let h = step_gives w parts e in
      let same = ap₂ (λ k (l : List ℕ). take k l) (sym g.len_is) (sym h.2.parts) in
      record {
        list = h.0;
        others = h.1;
        remain = h.2.first;
        moves = f ∙ ap (λ (x : Stepped). x.walk) (stepped-first w h.0 h.1 walk-range h.2.first);
        front = same ∙ first-shown w h.0 h.1 h.2.first;
        count = ap counted same ∙ first-counted w h.0 h.1 walk-range h.2.first;
      }

  module _ {parts : List ℕ} {v : CompositionIter} (x : Next parts v) where
    order-kept : (ls : List (List ℕ)) → (moved w ls).order ≡ order
    order-kept [] = g.order_is
    order-kept (l ∷ ls) = g.order_is

    len-kept : (ls : List (List ℕ)) → (moved w ls).len ≡ len
    len-kept [] = g.len_is
    len-kept (l ∷ ls) = g.len_is

    rest : remaining v ≡ x.others
    rest = ap remaining x.moves ∙ moved-remains w x.list x.others x.remain

    pub falls : length (remaining v) < length (remaining w)
    falls = let a = ap length rest in let b = ap length x.remain in omega arith

    -- the list is counted
    pub list_counts : (r : Refusal) → counted (take len parts) ≡ Err r → ⊥
    list_counts r e = let c = x.count in cc

    counts : (n : ℕ) → counted (take len parts) ≡ Ok n → n ≡ multiplicity x.list
    counts n e = let c = x.count in cc

    whole : lists order len ≡ (g.done ++ (x.list ∷ [])) ++ x.others
    whole = g.split ∙ ap (λ (ls : List (List ℕ)). g.done ++ ls) x.remain ∙ sym (append_assoc g.done (x.list ∷ []) x.others)

    pub going_on : {p' : Text} {n : ℕ} → counted (take len parts) ≡ Ok n → p' ≡ puts p (decimal n ++ joined spaced (take len parts) ++ newline) →
        Going order len p₀ v p'
    going_on {n = n} e t = record {
      done = g.done ++ (x.list ∷ []);
      range = g.range;
      order_is = ap (λ (y : CompositionIter). y.order) x.moves ∙ order-kept x.others;
      len_is = ap (λ (y : CompositionIter). y.len) x.moves ∙ len-kept x.others;
      at-end = λ h. ap (λ (y : CompositionIter). y.end) x.moves ∙ moved-end w x.others (sym rest ∙ h);
      split = whole ∙ ap (λ (ls : List (List ℕ)). (g.done ++ (x.list ∷ [])) ++ ls) (sym rest);
      wrote =
          after p₀ (joined line g.done) (line x.list) g.wrote (t ∙ ap (puts p) (ap₂ (λ (n : ℕ) (l : List ℕ). decimal n ++ joined spaced l ++ newline) (counts n e) x.front))
          ∙ ap (puts p₀) (ap (λ (y : List ℕ). joined line g.done ++ y) (sym (joined-one line x.list)) ∙ sym (joined-append line g.done (x.list ∷ [])));
    }
