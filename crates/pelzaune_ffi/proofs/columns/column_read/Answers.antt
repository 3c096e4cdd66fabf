use Rattle.std.proofs.Common.{subst}
use Rattle.std.specs.Prelude.{Option}
use Rattle.byte_streams.specs.Lines.{line_texts}
use Rattle.pelzaune_ffi.specs.Columns.{IsColumn}
use Rattle.pelzaune_ffi.specs.Described.{StoresByDescription}
use Rattle.pelzaune_ffi.specs.Results.{IsCountStored, of_moment}
use Rattle.pelzaune_ffi.specs.declared.descriptions.Syntax.{Syntax}
use Rattle.pelzaune_ffi.proofs.columns.column_read.Goals as goal

pub returns-in-Some-clause-entries : goal.returns-in-Some-clause-entries
returns-in-Some-clause-entries c =
    let P : Option Syntax → Type 0 = λ o. IsColumn (StoresByDescription IsCountStored of_moment o c.args.description.now)
    (line_texts c.args.text.now) c.args.entries.now c.described_column.new.entries c.described_column.new.refused in
    subst P c.in-Some.ensures c.described_column.ensures.entries

pub returns-in-None-clause-entries : goal.returns-in-None-clause-entries
returns-in-None-clause-entries c =
    let P : Option Syntax → Type 0 = λ o. IsColumn (StoresByDescription IsCountStored of_moment o c.args.description.now)
    (line_texts c.args.text.now) c.args.entries.now c.column.new.entries c.column.new.refused in
    subst P c.in-None.ensures c.column.ensures.entries
