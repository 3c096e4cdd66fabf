use Rattle.time_readers.proofs.Walking.{Reads-more, Reads-stop, Reads-last}
use Rattle.time_readers.proofs.rfc2822.grammar.month_and_year.Goals as goal

pub returns-in_err-rest : goal.returns-in_err-rest
returns-in_err-rest g c =
    Reads-stop _ _ _ _ c.args.numbers.now _ _ _ _ _ c.from_residual.ensures (c.blanks_with_comments.ensures _) c.in_err-rest.ensures.value

pub returns-in_err-rest-2 : goal.returns-in_err-rest-2
returns-in_err-rest-2 g c =
    Reads-more _ _ _ _ c.args.numbers.now _ _ _ _ _ (c.blanks_with_comments.ensures _) c.in_ok-rest.ensures.value
    (Reads-stop _ _ _ _ c.month_name.new.numbers _ _ _ _ _ c.from_residual-in_err-rest-2.ensures c.month_name.ensures c.in_err-rest-2.ensures.value)

pub returns-in_err-rest-3 : goal.returns-in_err-rest-3
returns-in_err-rest-3 g c =
    Reads-more _ _ _ _ c.args.numbers.now _ _ _ _ _ (c.blanks_with_comments.ensures _) c.in_ok-rest.ensures.value
    (Reads-more _ _ _ _ c.month_name.new.numbers _ _ _ _ _ c.month_name.ensures c.in_ok-rest-2.ensures.value
    (Reads-stop _ _ _ _ c.month_name.new.numbers _ _ _ _ _ c.from_residual-in_err-rest-3.ensures
    (c.blanks_with_comments-2.ensures _) c.in_err-rest-3.ensures.value))

pub returns-in_err-rest-4 : goal.returns-in_err-rest-4
returns-in_err-rest-4 g c =
    Reads-more _ _ _ _ c.args.numbers.now _ _ _ _ _ (c.blanks_with_comments.ensures _) c.in_ok-rest.ensures.value
    (Reads-more _ _ _ _ c.month_name.new.numbers _ _ _ _ _ c.month_name.ensures c.in_ok-rest-2.ensures.value
    (Reads-more _ _ _ _ c.month_name.new.numbers _ _ _ _ _ (c.blanks_with_comments-2.ensures _) c.in_ok-rest-3.ensures.value
    (Reads-stop _ _ _ _ c.year.new.numbers _ _ _ _ _ c.from_residual-in_err-rest-4.ensures c.year.ensures c.in_err-rest-4.ensures.value)))

pub returns : goal.returns
returns g c =
    Reads-more _ _ _ _ c.args.numbers.now _ _ _ _ _ (c.blanks_with_comments.ensures _) c.in_ok-rest.ensures.value
    (Reads-more _ _ _ _ c.month_name.new.numbers _ _ _ _ _ c.month_name.ensures c.in_ok-rest-2.ensures.value
    (Reads-more _ _ _ _ c.month_name.new.numbers _ _ _ _ _ (c.blanks_with_comments-2.ensures _) c.in_ok-rest-3.ensures.value
    (Reads-more _ _ _ _ c.year.new.numbers _ _ _ _ _ c.year.ensures c.in_ok-rest-4.ensures.value
    (Reads-last _ _ _ _ _ _ _ (c.year_blanks.ensures _) c.ok_or-5.ensures.value))))
