-- `parts_text::out::Text::push_finished` meets its contract: a pair's text, or a refusal. Assumes nothing.
use Rattle.std.proofs.Common.{◌≡◌, ◌∙◌, ap, ap₂, sym}
use Rattle.refusals.specs.declared.Refusal.TheVariants.{Shape}
use Rattle.refusals.specs.Number.{number}
use Rattle.parts_text.specs.Text.{refused_line}
use Rattle.parts_text.specs.Inner.{puts}
use Rattle.parts_text.proofs.Going.{pair-lists, pair-refused, pair-of, no-pair}
use Rattle.parts_text.proofs.out.Text.push_finished.Goals as goal
use Rattle.parts_text.proofs.out.Text.push_finished.Goals.{in_default, in-InLen2}

pub returns-in-Err : goal.returns-in-Err
returns-in-Err c =
    let p = c.args.self.now in
    let r = c.in-Err.refusal in
    let last = c.push_last.ensures ∙ ap (λ n. puts c.match-state.self (refused_line n)) c.number.ensures in
    elim c.match-state.branch [
      | in-InLen2 w ↦
          let a = w.in-InLen in
          let e = w.push_lists-answer.ensures in
          pair-refused a.order a.len p r (sym e.0 ∙ sym w.answer-is ∙ c.in-Err.is) (w.self-is ∙ e.1) last ∙ ap (puts p) (pair-of c.args.state a.order a.len a.is)
      | in_default w ↦
          let shape : r ≡ Shape = cc in
          last ∙ ap₂ (λ q r. puts q (refused_line (number r))) w.self-is shape
          ∙ ap (puts p) (sym (no-pair c.args.state w.in_default.not-InLen w.in_default.not-AfterLen))
    ]

pub returns-in_default-answer : goal.returns-in_default-answer
returns-in_default-answer c =
    let p = c.args.self.now in
    elim c.match-state.branch [
      | in-InLen2 w ↦
          let a = w.in-InLen in
          let e = w.push_lists-answer.ensures in
          pair-lists a.order a.len p (sym e.0 ∙ sym w.answer-is ∙ c.in_default-answer.is) (w.self-is ∙ e.1) ∙ ap (puts p) (pair-of c.args.state a.order a.len a.is)
      | in_default w ↦ cc
    ]
