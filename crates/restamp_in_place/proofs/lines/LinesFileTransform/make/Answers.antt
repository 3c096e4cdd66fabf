use Rattle.std.specs.Io.KnownBytes.{Appends}
use Rattle.std.proofs.Common.{◌≡◌, ℕ, List, [], refl, Option, Some, IfSome}
use Rattle.std.proofs.lemmas.Option.{IfSome_then}
use Rattle.std.proofs.lemmas.Result.{IfOk-at_ok}
use Rattle.restamp_stream.specs.declared.tally.Tally.{Tally}
use Rattle.restamp_stream.specs.Reports.{nothing_counted}
use Rattle.restamp_stream.specs.Streams.{Job, state, ProcessedAll}
use Rattle.restamp_in_place.specs.Replacing.{Made, bytes_made, Makes, made_of}
use Rattle.restamp_in_place.proofs.lines.LinesFileTransform.make.Goals as goal

-- ---- The bytes that a stream makes of a file

-- the processed lines are known also if the writer is empty at first
from_nothing : (job : Job) (out out' log log' : Option (List ℕ)) (tally : Tally) (bytes : List ℕ)
    → ProcessedAll job (state out log nothing_counted) (state out' log' tally) bytes
    → (text : List ℕ) × Appends out out' text × ProcessedAll job (state (Some []) log nothing_counted) (state (Some text) log' tally) bytes
from_nothing job out out' log log' tally bytes d =
    let p = d.processed in (
      p.text,
      rw d.closed.same_out p.written,
      record {
        actions = d.actions;
        between = state (Some p.text) d.between.log d.between.tally;
        processed = record { text = p.text; reports = p.reports; become = p.become; written = refl; reported = p.reported; tallied = p.tallied };
        closed = record { same_out = refl; reported = d.closed.reported; same_tally = d.closed.same_tally };
      },
    )

makes : (job : Job) (out out' log log' remaining : Option (List ℕ)) (tally : Tally) (made : Made) → made ≡ made_of tally
    → IfSome remaining (ProcessedAll job (state out log nothing_counted) (state out' log' tally))
    → IfSome remaining (λ old. (text : List ℕ) × Appends out out' text × Makes job log log' tally old (bytes_made made text))
makes job out out' log log' remaining tally made is all = IfSome_then remaining all
    (λ bytes d. let n = from_nothing job out out' log log' tally bytes d in (n.0, n.1, (n.0, n.2, rw is)))

pub returns-in-Ok : goal.returns-in-Ok
returns-in-Ok g c = makes _ _ _ _ _ _ _ _ c.made_of-made.ensures (IfOk-at_ok _ c.in-Ok.is c.answer-lines.ensures)
