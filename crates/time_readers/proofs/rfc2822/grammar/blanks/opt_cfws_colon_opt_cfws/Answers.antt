use Rattle.std.proofs.Common.{ap, ◌∙◌, option_map, option_and_then}
use Rattle.time_readers.specs.Readers.{char, ◌then◌}
use Rattle.time_readers.specs.MailBlanks.{opt_cfws, opt_cfws_colon_opt_cfws}
use Rattle.time_readers.proofs.rfc2822.grammar.blanks.opt_cfws_colon_opt_cfws.Goals as goal

pub returns-in_err-rest : goal.returns-in_err-rest
unfolding opt_cfws_colon_opt_cfws
returns-in_err-rest c =
    ap (option_map (λ p. p.0.now)) c.from_residual.ensures
    ∙ ap (option_and_then opt_cfws) c.in_err-rest.ensures
    ∙ ap (option_and_then (char ":" then opt_cfws)) c.opt_cfws.ensures

pub returns : goal.returns
unfolding opt_cfws_colon_opt_cfws
returns c =
    c.opt_cfws-2.ensures
    ∙ ap (option_and_then opt_cfws) c.in_ok-rest.ensures
    ∙ ap (option_and_then (char ":" then opt_cfws)) c.opt_cfws.ensures
