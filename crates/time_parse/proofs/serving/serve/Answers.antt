use Rattle.std.specs.Prelude.{◌≡◌, Option, None, Some, IfSome}
use Rattle.std.proofs.Common.{Bool, ℕ, List}
use Rattle.time_values.specs.Calendar.{greatest_year}
use Rattle.programs_answers.specs.Formats.{target_named}
use Rattle.programs_answers.specs.Output as output
use Rattle.programs_answers.specs.declared.formats.Target.{Target}
use Rattle.time_parse.specs.Place.{IsRequestedAnswer, WritesAnswers}
use Rattle.time_parse.specs.Request.{Means, Meaning, meaning_of}
use Rattle.time_parse.specs.declared.request.Version.{Version}
use Rattle.time_parse.proofs.serving.serve.Goals as goal

-- answers by a meaning are answers by the format that has it
served : (prints_places : Bool) (version : Version) (format target : List ℕ) (m : Meaning) (t : Target) (left old new : Option (List ℕ))
    → Means version format m × (target_named target ≡ Some t)
    → IfSome left (λ bytes. output.WritesAnswers (IsRequestedAnswer prints_places m t) old new bytes)
    → IfSome left (λ bytes. WritesAnswers prints_places version format target old new bytes)
served prints_places version format target m t None old new meant h = tt
served prints_places version format target m t (Some bytes) old new meant h = (m, t, meant.0, meant.1, h)

pub returns-in-Ok-serve_request-clause-ok : goal.returns-in-Ok-serve_request-clause-ok
returns-in-Ok-serve_request-clause-ok g c =
    let meant = rw (c.as_bytes-format.ensures.value, c.as_bytes.ensures.value) at c.in-Ok.ensures in
    served c.args.question.prints_places c.args.question.version c.args.question.format.now
    c.args.question.target.now (meaning_of c.in-Ok.request.chosen) c.in-Ok.request.target
    (g.R.Source.remaining c.args.input.now) (g.W.Sink.contents c.args.out.now.sink) (g.W.Sink.contents c.serve_request.new.out.sink)
    meant c.in-Ok-serve_request.ensures.ok
