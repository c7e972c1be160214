-- The kinds of exact number: checked as they are formed, which the code computes with, and with their history. Assumes nothing.
use Rattle.std.specs.Prelude.{pos, Ok}
use Rattle.whole.specs.Checked
use Rattle.whole.specs.Checked.{Whole}
use Rattle.whole.specs.History.{Traced, bare, traced_plus, traced_minus, traced_times, traced_over, traced_of_nat}
use Rattle.calculus.specs.Kind.{Kind}

abbrev pub checked : Kind Whole
checked = record {
  zero = Ok (pos 0);
  one = Ok (pos 1);
  plus = Checked.plus;
  minus = Checked.minus;
  times = Checked.times;
  over = Checked.over;
  of_nat = Checked.of_nat;
}

abbrev pub traced : Kind Traced
traced = record {
  zero = bare (pos 0);
  one = bare (pos 1);
  plus = traced_plus;
  minus = traced_minus;
  times = traced_times;
  over = traced_over;
  of_nat = traced_of_nat;
}
