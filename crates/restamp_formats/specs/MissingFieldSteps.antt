-- No public contract rests on this file.
-- The part of a moment that a component's step gives.
use Rattle.restamp_formats.specs.Common.{Bool, false, Step, Kind}
use Rattle.restamp_formats.specs.MissingField.{kind_of, same}

-- the step is a component of that kind
abbrev pub step_has : Kind → Step → Bool
step_has k (Step.Component c) = same (kind_of c) k
step_has k s = false
