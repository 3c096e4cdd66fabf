use Rattle.std.proofs.Common.{◌-◌, ◌+◌, drop, length, length-drop, length-take, arith}
use Rattle.std.proofs.Math.Seq.{drop-length}
use Rattle.std.proofs.lemmas.List.{take_rest}
use Rattle.pelzaune_ffi.proofs.lines.first_line.Goals as goal

pub returns-in-Some : goal.returns-in-Some
returns-in-Some c =
    let bytes = c.args.bytes.now in
    let next = c.in-Some.i + 1 in
    record {
      lines = rw (take_rest bytes next) c.in-Some.ensures.1;
      shorter = omega (arith, length-take (length bytes - next) (drop next bytes), length-drop next bytes, c.in-Some.ensures.0);
    }

pub returns-in-None : goal.returns-in-None
returns-in-None c =
    let bytes = c.args.bytes.now in
    let all = length bytes in
    record {
      lines = rw (take_rest bytes all, drop-length) c.in-None.ensures;
      shorter = omega (arith, length-take (all - all) (drop all bytes), length-drop all bytes, c.requires);
    }
