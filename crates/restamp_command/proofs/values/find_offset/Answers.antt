use Rattle.std.proofs.Common.{◌≡◌, ◌∙◌, Ok, Err, refl, Result}
use Rattle.std.specs.Result.{result_ok}
use Rattle.time_parsing.specs.Outcome.{seen}
use Rattle.time_values.specs.declared.error.Parse.{Parse}
use Rattle.restamp_command.proofs.values.find_offset.Goals as goal

ok-seen : {V : Type 0} (r : Result V Parse) → result_ok r ≡ result_ok (seen r)
ok-seen (Ok v) = refl
ok-seen (Err e) = refl

pub returns : goal.returns
returns c = (
  seen c.parse_offset.result,
  rw (c.compound-description.ensures, c.offset_items-items.ensures, c.as_bytes.ensures.value) at c.parse_offset.ensures,
  c.ok.ensures.value ∙ ok-seen c.parse_offset.result,
)
