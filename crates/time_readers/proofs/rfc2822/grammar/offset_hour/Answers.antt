use Rattle.std.proofs.Common.{◌≡◌, pos, ◌∷◌, [], ◌++◌, drop, None, Some, refl, ap, sym, ◌∙◌, inl, inr, arith, rules, w8, SFits}
use Rattle.std.proofs.lemmas.Int.{to_z-of_z}
use Rattle.std.proofs.lemmas.Option.{none-some}
use Rattle.time_digits.specs.Digits.{sign_byte}
use Rattle.time_values.specs.Sign.{signed_by}
use Rattle.time_readers.specs.MailBlanks.{zone_literal}
use Rattle.time_readers.proofs.MailOffset.{no_zone, zone-cut}
use Rattle.time_readers.proofs.MailBlanks.{Reads-none, two_digits-below}
use Rattle.time_readers.proofs.rfc2822.grammar.offset_hour.Goals as goal

pub returns-in_err-zone : goal.returns-in_err-zone
returns-in_err-zone g c =
    Reads-none _ _ _ _ c.from_residual.ensures (λ text rest m e asks. elim asks [
      | inl zone ↦ none-some _ (c.in_err-zone.ensures ∙ ap zone_literal e ∙ zone.1)
      | inr signed ↦ c.in_default.ensures (sign_byte signed.sign ∷ []) (signed.digits ++ rest) signed.sign (e ∙ ap (λ t. t ++ rest) signed.cut) refl
    ])

pub returns-in_default : goal.returns-in_default
returns-in_default g c =
    let hours = c.in_ok-zone.zone.1 in
    let cut = zone-cut _ _ _ (sym c.in_ok-zone.ensures) in
    let fits : SFits w8 hours = search rules in
    (cut.0, cut.1, inl (hours, cut.2, ap (λ h. record c.args.numbers.now { offset_sign = None; offset_hour = h }) (to_z-of_z w8 hours fits)))

pub signed-numbers-requires : goal.signed-numbers-requires
signed-numbers-requires g c = omega (arith, two_digits-below _ 0 25 _ _ _ c.in_ok-found.ensures)

pub returns-in_err-found : goal.returns-in_err-found
returns-in_err-found g c =
    let first = c.in-Some.ensures in
    let s = c.in-Some.first.1 in
    let left = c.in-Some.first.0.now in
    let cut : c.args.input.now ≡ sign_byte s ∷ left = first.1 ∙ ap (λ t. t ++ left) first.2 in
    Reads-none _ _ _ _ c.from_residual-in_err-found.ensures (λ text rest m e asks. elim asks [
      | inl zone ↦ none-some _ (sym (no_zone s left) ∙ ap zone_literal (sym cut ∙ e) ∙ zone.1)
      | inr signed ↦ c.in_err-found.ensures signed.digits rest signed.hour (ap (drop 1) (sym cut ∙ e ∙ ap (λ t. t ++ rest) signed.cut)) signed.run
    ])

pub returns : goal.returns
returns g c =
    let first = c.in-Some.ensures in
    let found = c.in_ok-found.ensures in
    let s = c.in-Some.first.1 in
    let rest = c.in_ok-found.found.0.now in
    let fits : SFits w8 c.signed-numbers.result = search rules in
    let hour = c.signed-numbers.ensures.value ∙ ap (λ b. signed_by b (pos c.in_ok-found.found.1)) c.is_negative.ensures in
    let cut : c.args.input.now ≡ (sign_byte s ∷ found.0) ++ rest =
    first.1 ∙ ap (λ t. t ++ c.in-Some.first.0.now) first.2 ∙ ap (λ r. sign_byte s ∷ r) found.1 in (
      sign_byte s ∷ found.0,
      cut,
      inr (record {
        no_zone = no_zone s (found.0 ++ rest);
        sign = s;
        digits = found.0;
        hour = c.in_ok-found.found.1;
        cut = refl;
        run = found.2;
        says = ap (λ h. record c.args.numbers.now { offset_sign = Some s; offset_hour = h }) (to_z-of_z w8 _ fits ∙ hour);
      }),
    )
