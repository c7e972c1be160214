-- An operation on jets as a function over lists: what is given is tested, the jets of the lists go to the operation, and its answer goes into
-- `out`. Document 01's 1 and 2 are so tested over all that is given before the operation tests anything else. X is what a list holds: floats, or
-- whole numbers. Assumes nothing.
use Rattle.std.specs.Prelude.{◌≡◌, cond, List, ℕ, min, eqb, length, Result, Ok, Err, ⊤}
use Rattle.refusals.specs.declared.Refusal.{Refusal}
use Rattle.refusals.specs.Number.{number, number_of}
use Rattle.calculus.specs.JetKind.{JetKind, jet_of_list, into_list}
use Rattle.given.specs.Given.{first, order_given, list_given}

-- nothing is done where a test c of what is given is not 0: what is lent, a list or several, stays as it was
abbrev pub admitted : {L : Type 0} → ℕ → L → ℕ × L → ℕ × L
admitted c out r = cond (eqb c 0) r (c, out)

-- where such a test is not 0, that is what comes of it
abbrev pub Refused : {L : Type 0} → ℕ → L → ℕ × L → Type 0
Refused c out r = ¬ (c ≡ 0) → r ≡ (c, out)

-- what is read off a list, a jet or a single value: the test of a list of so many numbers for an order, and what it holds
pub record Input (X J : Type 0) : Type 0 where
  pub test : ℕ → ℕ → ℕ
  pub jet : ℕ → List X → J

-- an answer: the test of the list that is lent for the order of work, and how the answer goes into it
pub record Output (X A : Type 0) : Type 0 where
  pub test : ℕ → ℕ → ℕ
  pub deliver : A → List X → ℕ × List X

-- an answer by document 01's number, beside what is lent as it is then
abbrev pub numbered : {L : Type 0} → Result ⊤ Refusal × L → ℕ × L
numbered r = (number_of r.0, r.1)

-- ---- jets of a kind, and their answers
module _ {X E J : Type 0} (K : JetKind X E J) where
  abbrev pub input : Input X J
  input = record { test = list_given K.count; jet = jet_of_list K }

  -- as the jet's own function writes it into a list; a refusal leaves that list as it was, beside its number
  unfoldable pub deliver : Result J Refusal → List X → ℕ × List X
  deliver (Ok a) out = numbered (into_list K a out)
  deliver (Err c) out = (number c, out)

  abbrev pub output : Output X (Result J Refusal)
  output = record { test = list_given K.count; deliver = deliver }

module _ {X J K A : Type 0} (I : Input X J) (I' : Input X K) (O : Output X A) where
  -- the tests of two lists, and of the list that is lent for the smaller order
  abbrev pub two_given : ℕ → List X → ℕ → List X → List X → ℕ
  two_given m a n b out = first (I.test m (length a)) (first (I'.test n (length b)) (O.test (min m n) (length out)))

  -- two jets, at the smaller order
  unfoldable pub over_two : (J → K → A) → ℕ → List X → ℕ → List X → List X → ℕ × List X
  over_two op m a n b out = admitted (two_given m a n b out) out (O.deliver (op (I.jet m a) (I'.jet n b)) out)

  -- the same at an order k that is asked
  abbrev pub two_given_at : ℕ → ℕ → List X → ℕ → List X → List X → ℕ
  two_given_at k m a n b out = first (I.test m (length a)) (first (I'.test n (length b)) (first (order_given k) (O.test k (length out))))

  unfoldable pub over_two_at : ℕ → (J → K → A) → ℕ → List X → ℕ → List X → List X → ℕ × List X
  over_two_at k op m a n b out = admitted (two_given_at k m a n b out) out (O.deliver (op (I.jet m a) (I'.jet n b)) out)

-- one jet, to an answer of the order k
module _ {X J A : Type 0} (I : Input X J) (O : Output X A) (k : ℕ) where
  abbrev pub one_given : ℕ → List X → List X → ℕ
  one_given n a out = first (I.test n (length a)) (O.test k (length out))

  unfoldable pub over_one : (J → A) → ℕ → List X → List X → ℕ × List X
  over_one op n a out = admitted (one_given n a out) out (O.deliver (op (I.jet n a)) out)

-- an answer alone, to a list that is tested first
abbrev pub alone : {X A : Type 0} → Output X A → A → List X → ℕ × List X
alone O a out = admitted (O.test 0 (length out)) out (O.deliver a out)
