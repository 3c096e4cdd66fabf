use Rattle.std.proofs.Common.{sym, ◌∙◌, Ok, Err}
use Rattle.std.proofs.lemmas.List.{take_rest}
use Rattle.restamp_formats.proofs.OneWriting.{read-checked, read-refused}
use Rattle.restamp_formats.proofs.clock.with_suffix.Goals as goal

pub returns-then-has_tail-clause-said : goal.returns-then-has_tail-clause-said
returns-then-has_tail-clause-said g c =
    let read = c.read_suffix-suffix in (
      _,
      c.from_reason.ensures,
      read-refused c.args.zones.now c.args.is_prefix c.args.text.now c.args.front read.result _
          (take_rest c.args.text.now c.args.front.length) read.ensures.within read.ensures.says read.ensures.longest
          (sym c.has_tail.ensures ∙ c.if-has_tail.true),
    )

pub returns-in-Ok-clause-said : goal.returns-in-Ok-clause-said
returns-in-Ok-clause-said g c =
    let read = c.read_suffix-suffix in
    read-checked c.args.zones.now c.args.is_prefix c.args.text.now c.args.front read.result _
    (take_rest c.args.text.now c.args.front.length) read.ensures.within read.ensures.says read.ensures.longest
    c.has_local_offset-has_local_offset.result (Ok c.in-Ok.field-0) (sym c.has_tail.ensures ∙ c.if-has_tail.false)
    c.has_local_offset-has_local_offset.ensures c.in-Ok.ensures

pub returns-in-Err-clause-said : goal.returns-in-Err-clause-said
returns-in-Err-clause-said g c =
    let read = c.read_suffix-suffix in (
      _,
      c.from_reason-in-Err.ensures,
      read-checked c.args.zones.now c.args.is_prefix c.args.text.now c.args.front read.result _
          (take_rest c.args.text.now c.args.front.length) read.ensures.within read.ensures.says read.ensures.longest
          c.has_local_offset-has_local_offset.result (Err c.in-Err.fault) (sym c.has_tail.ensures ∙ c.if-has_tail.false)
          c.has_local_offset-has_local_offset.ensures c.in-Err.ensures,
    )
