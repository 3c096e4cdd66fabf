-- Reports of why replacing a file failed.
use Rattle.std.specs.Prelude.{ℕ, List, codes, ◌≡◌, ◌++◌}
use Rattle.restamp_stream.specs.declared.ending.Stop.{Stop}
use Rattle.restamp_in_place.specs.declared.replace_errors.Step.{Step}
use Rattle.restamp_in_place.specs.declared.replace_errors.Step.TheVariants.{Open, Create, Write, Store, Look, BackUp, Rename, Remove, Sync}
use Rattle.restamp_in_place.specs.declared.replace_errors.Unreplaced.{Unreplaced}
use Rattle.restamp_in_place.specs.declared.replace_errors.Unreplaced.TheVariants.{Stopped, Changed, Failed}

-- ---- The text of a step

-- the text of the step that failed
abbrev pub step_text : Step → List ℕ
step_text Open = codes "it was not opened"
step_text Create = codes "no new file was made beside it"
step_text Write = codes "the new file was not written"
step_text Store = codes "the new file was not written"
step_text Look = codes "it was not checked for changes"
step_text BackUp = codes "it was not backed up"
step_text Rename = codes "the new file did not take its place"
step_text Remove = codes "the new file was not removed"
step_text Sync = codes "the new file took its place, but its folder was not synced"

-- The text of why replacing a file failed. After the step that failed, the text of its error may be any.
abbrev pub IsWhy : Unreplaced Stop → List ℕ → Type 0
IsWhy (Stopped stop) text = text ≡ codes "its lines were not rewritten"
IsWhy Changed text = text ≡ codes "another program changed it meanwhile"
IsWhy (Failed step error) text = (detail : List ℕ) × (text ≡ step_text step ++ (codes ": " ++ detail))
