use Rattle.std.proofs.Common.{◌++◌, take, ◌∙◌}
use Rattle.std.proofs.KnownBytes.{Appends-trans}
use Rattle.restamp_stream.specs.Reports.{displayed_as}
use Rattle.restamp_stream.proofs.LinesLemmas.{displayed_as-next}
use Rattle.restamp_stream.proofs.names.write_escaped.Goals as goal

pub loop-rest-preserved : goal.loop-rest-preserved
loop-rest-preserved g c =
    let so_far = c.loop-rest.invariant in
    let part = displayed_as c.args.ascii (take c.in_ok-n.n c.loop-rest.rest.now) in (
      so_far.0 ++ part,
      Appends-trans _ _ _ so_far.0 part so_far.1 c.in_ok-n.ensures.shown,
      displayed_as-next c.args.ascii c.in_ok-n.n so_far.0 c.loop-rest.rest.now c.args.name.now so_far.2,
      c.in_ok-n.ensures.cause ∙ so_far.3,
    )
