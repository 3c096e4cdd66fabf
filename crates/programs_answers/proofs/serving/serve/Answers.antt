use Rattle.std.specs.Prelude.{Option, None, Some, IfSome}
use Rattle.std.proofs.Common.{◌≡◌, ◌∙◌, ℕ, List, subst}
use Rattle.programs_answers.specs.Output.{WritesAnswers}
use Rattle.programs_answers.proofs.serving.serve.Goals as goal

-- the text that was read is all that remained, so its answers are the answers to the whole input
all_answered : (P : List ℕ → List ℕ → Type 0) (left old new : Option (List ℕ)) (items text : List ℕ) → text ≡ items
    → IfSome left (λ bytes. items ≡ bytes) → WritesAnswers P old new text → IfSome left (λ bytes. WritesAnswers P old new bytes)
all_answered P None old new items text is all answers = tt
all_answered P (Some bytes) old new items text is all answers = subst (WritesAnswers P old new) (is ∙ all) answers

pub returns-in-Ok-clause-ok : goal.returns-in-Ok-clause-ok
returns-in-Ok-clause-ok g c =
    all_answered (g.A.LineHandler.is_answer c.args.handler.now) (g.R.Source.remaining c.args.input.now) _ _ c.in_ok-text.text.items
    c.as_slice.result.now c.as_slice.ensures.value c.in_ok-text.ensures.all c.in-Ok.ensures.answers
