use Rattle.std.proofs.Common.{◌≡◌, ◌∙◌, ap, [], ◌∷◌, sym, ◌/◌, ◌%◌, ◌+◌, arith}
use Rattle.parts_text.specs.Text.{decimal}
use Rattle.parts_text.specs.Inner.{puts}
use Rattle.parts_text.proofs.Puts.{puts_none, after_byte, decimal-one, decimal-more}
use Rattle.parts_text.proofs.out.Text.+push_decimal.Goals as goal
use Rattle.parts_text.proofs.out.Text.+push_decimal.Goals.{then-n-ge10, else-n-ge10}

pub returns : goal.returns
returns t c =
    let a = c.args in
    elim c.if-n-ge10.branch [
      | then-n-ge10 w ↦
          after_byte a.self.now (decimal (a.n / 10)) (48 + a.n % 10) (w.self-is ∙ w.push_decimal.ensures) c.push.ensures
          ∙ ap (puts a.self.now) (sym (decimal-more a.n w.if-n-ge10.true))
      | else-n-ge10 w ↦
          let d : a.n % 10 ≡ a.n = omega arith in
          after_byte a.self.now [] (48 + a.n % 10) (w.self-is ∙ puts_none _) c.push.ensures
          ∙ ap (puts a.self.now) (ap (λ d. (48 + d) ∷ []) d ∙ sym (decimal-one a.n w.if-n-ge10.false))
    ]
