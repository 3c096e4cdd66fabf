use Rattle.pelzaune_ffi.proofs.moments.fast.iso8601.extended.Goals as goal

pub returns : goal.returns
returns c =
    let digits = c.in_ok-digits in
    (digits.digits.rest.now, rw digits.ensures.kind at (c.in_ok-date.ensures c.args.text.now digits.ensures.digits), c.in_ok-time.ensures)
