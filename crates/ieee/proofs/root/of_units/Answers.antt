-- `root::of_units` meets its contract: the bits that it puts together are those of the defined root. Assumes nothing.
use Rattle.std.proofs.Common.{◌≡◌, sym, ap, ◌∙◌, subst, ℕ, ◌+◌, ◌*◌, ◌%◌, ◌^◌, ◌≤◌, ◌<◌, arith}
use lib.Count.{count_leading_zeros, leading_le}
use lib.Ieee.{binary64, of_bits}
use Rattle.ieee.proofs.Scaled.{Place, place, dropped, shift, shift-room, shift-high}
use Rattle.ieee.proofs.Assembled.{of-bits, no_nan}
use Rattle.ieee.proofs.Units.{Digits, up-or-down, in_between, defined}
use Rattle.ieee.proofs.root.of_units.Goals as goal

few : (z j : ℕ) → j < 2046 → dropped z j ≤ 1600
few z j h = omega arith

-- what the two calls ensure: the digits, and that the rounded root has 53
digits-of : {w r s : ℕ} → (r * r + s ≡ w * 2 ^ 42) × (s ≤ 2 * r) × (r < 2 ^ 53) → Digits w r s
digits-of d = record { value = d.0; below = d.1; small = d.2 }

ends : (m j : ℕ) {r s q : ℕ}
    → Place m
    → (r * r + s ≡ m * 2 ^ shift (count_leading_zeros 64 m) j % 2 ^ 64 * 2 ^ 42) × (s ≤ 2 * r) × (r < 2 ^ 53)
    → q ≡ up-or-down r s
    → (2 ^ 52 ≤ q) × (q ≤ 2 ^ 53)
ends m j {r} {s} p d e = subst (λ (x : ℕ). (2 ^ 52 ≤ x) × (x ≤ 2 ^ 53)) (sym e) (in_between m j p r s (digits-of d))

pub overflow_cast-z : goal.overflow_cast-z
overflow_cast-z c = omega (arith, leading_le 64 c.args.m)

pub overflow_sub-k : goal.overflow_sub-k
overflow_sub-k c = omega (arith, leading_le 64 c.args.m)

pub overflow_add-k : goal.overflow_add-k
overflow_add-k c = omega arith

pub overflow_add-j : goal.overflow_add-j
overflow_add-j c = omega arith

pub overflow_mul-k : goal.overflow_mul-k
overflow_mul-k c = omega arith

pub overflow_sub-j : goal.overflow_sub-j
overflow_sub-j c =
    let p = place c.args.m c.requires.0 c.requires.1 in
    shift-room (count_leading_zeros 64 c.args.m) p.at c.args.j p.zeros p.narrow

pub overflow_shl-m : goal.overflow_shl-m
overflow_shl-m c =
    let p = place c.args.m c.requires.0 c.requires.1 in
    let h = shift-high (count_leading_zeros 64 c.args.m) p.at c.args.j p.zeros p.narrow in
    omega arith

pub rounded-q-requires : goal.rounded-q-requires
rounded-q-requires c = c.digits-d.ensures.2

pub overflow_mul-result : goal.overflow_mul-result
overflow_mul-result c = omega arith

pub overflow_add-result : goal.overflow_add-result
overflow_add-result c =
    let e = ends c.args.m c.args.j (place c.args.m c.requires.0 c.requires.1) c.digits-d.ensures c.rounded-q.ensures in omega arith

pub float_from_bits-result : goal.float_from_bits-result
float_from_bits-result c =
    let e = ends c.args.m c.args.j (place c.args.m c.requires.0 c.requires.1) c.digits-d.ensures c.rounded-q.ensures in
    no_nan c.rounded-q.result (dropped (count_leading_zeros 64 c.args.m) c.args.j) e.0 e.1 (few (count_leading_zeros 64 c.args.m) c.args.j c.requires.2)

pub returns : goal.returns
returns c =
    let at = place c.args.m c.requires.0 c.requires.1 in
    let found = digits-of c.digits-d.ensures in
    let d = c.digits-d.result in
    let k = dropped (count_leading_zeros 64 c.args.m) c.args.j in
    let e = in_between c.args.m c.args.j at d.root d.rest found in
    ap (λ (q : ℕ). of_bits binary64 (k * 2 ^ 52 + q)) c.rounded-q.ensures
    ∙ of-bits (up-or-down d.root d.rest) k e.0 e.1 (few (count_leading_zeros 64 c.args.m) c.args.j c.requires.2)
    ∙ sym (defined c.args.m c.args.j at d.root d.rest found)
