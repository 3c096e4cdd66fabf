use Rattle.std.proofs.Common.{◌∙◌, Some, Ok, Err}
use Rattle.byte_streams.specs.Lines.{line_texts}
use Rattle.time_components.specs.Tree.{steps_shape}
use Rattle.time_descriptions.specs.Description.{shape}
use Rattle.time_descriptions.specs.Refusal.{refusal_of}
use Rattle.pelzaune_ffi.specs.Columns.{by_tree, rejecting}
use Rattle.pelzaune_ffi.specs.Described.{StoresByDescription}
use Rattle.pelzaune_ffi.specs.Results.{IsCountStored, of_moment}
use Rattle.pelzaune_ffi.proofs.StoredRows.{IsColumn-map}
use Rattle.pelzaune_ffi.proofs.columns.described_column.Goals as goal

pub returns-in-Ok-clause-entries : goal.returns-in-Ok-clause-entries
returns-in-Ok-clause-entries c =
    IsColumn-map (by_tree (steps_shape c.new.result)) (StoresByDescription IsCountStored of_moment (Some c.args.syntax) c.args.description.now)
    (λ line status old new h. (Ok (shape c.in-Ok.found), c.in-Ok.ensures.ok, rw c.new.ensures at h))
    (line_texts c.args.text.now) c.args.entries.now c.column.new.entries c.column.new.refused c.column.ensures.entries

pub returns-in-Err-clause-entries : goal.returns-in-Err-clause-entries
returns-in-Err-clause-entries c =
    IsColumn-map (rejecting c.fault_status.result) (StoresByDescription IsCountStored of_moment (Some c.args.syntax) c.args.description.now)
    (λ line status old new h. (Err (refusal_of c.in-Err.error), c.in-Err.ensures.err, (h.0 ∙ c.fault_status.ensures, h.1)))
    (line_texts c.args.text.now) c.args.entries.now c.column-in-Err.new.entries c.column-in-Err.new.refused
    c.column-in-Err.ensures.entries
