use Rattle.pelzaune_ffi.proofs.formatting.format_stored.Goals as goal

pub returns : goal.returns
returns c = rw (c.as_slice.ensures.value, c.steps_of-steps.ensures, c.steps_in_use.ensures.steps) at c.format_parts.ensures
