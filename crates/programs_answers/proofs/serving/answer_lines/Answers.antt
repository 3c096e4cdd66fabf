use Rattle.std.proofs.Common.{◌≡◌, ◌++◌, [], ◌∙◌, refl, subst, sym, append-nil, arith}
use Rattle.std.proofs.KnownBytes.{Appends-trans}
use Rattle.std.proofs.lemmas.Grind.{common_steps}
use Rattle.byte_streams.specs.Lines.{line_texts}
use Rattle.programs_answers.specs.Output.{AreAnswers}
use Rattle.programs_answers.proofs.OutputLemmas.{AreAnswers-more, append_known-none}
use Rattle.programs_answers.proofs.serving.answer_lines.Goals as goal

pub loop-rest-init : goal.loop-rest-init
loop-rest-init g c = (([], append_known-none _ _ c.requires, λ others h. h), refl, refl)

pub loop-rest-preserved : goal.loop-rest-preserved
loop-rest-preserved g c =
    let so_far = c.loop-rest.invariant.0 in
    let more = c.in_ok-add_line.ensures.bytes in (
      (
        so_far.0 ++ more.0,
        Appends-trans _ _ _ so_far.0 more.0 so_far.1 more.2,
        AreAnswers-more (g.A.LineHandler.is_answer c.args.handler.now) (line_texts c.loop-rest.rest.now)
            (line_texts c.first_line.result.1.now) (line_texts c.args.input.now) c.first_line.result.0.now so_far.0 more.0
            c.first_line.ensures.line more.1 so_far.2,
      ),
      c.in_ok-add_line.ensures.cause ∙ c.loop-rest.invariant.1,
      c.in_ok-add_line.ensures.through ∙ c.loop-rest.invariant.2,
    )

pub returns-clause-answers : goal.returns-clause-answers
returns-clause-answers g c =
    let so_far = c.loop-rest.invariant.0 in
    let none : c.loop-rest.rest.now ≡ [] = grind (arith, common_steps) in (
      so_far.0 ++ [],
      so_far.2 [] (subst (λ r. AreAnswers (g.A.LineHandler.is_answer c.args.handler.now) (line_texts r) []) (sym none) refl),
      rw append-nil so_far.1,
    )
