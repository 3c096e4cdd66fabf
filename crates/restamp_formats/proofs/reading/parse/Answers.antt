use Rattle.std.proofs.Common.{refl}
use Rattle.restamp_formats.specs.Common.{greatest_year}
use Rattle.restamp_formats.proofs.ParseLemmas.{says_plain}
use Rattle.restamp_formats.proofs.reading.parse.Goals as goal

pub returns-in-Rfc3339-clause-said : goal.returns-in-Rfc3339-clause-said
returns-in-Rfc3339-clause-said g c =
    let is = c.in-Rfc3339.is in
    says_plain g.E.FromReason.is_of _ _ _ _ _ _ (rw is refl) (rw is refl) (rw is c.read_3339.ensures.said) c.or_unread.ensures

pub returns-in-Rfc2822-clause-said : goal.returns-in-Rfc2822-clause-said
returns-in-Rfc2822-clause-said g c =
    let is = c.in-Rfc2822.is in
    says_plain g.E.FromReason.is_of _ _ _ _ _ _ (rw is refl) (rw is refl) (rw is c.read_mail.ensures.said) c.or_unread-in-Rfc2822.ensures

pub returns-in-Iso8601-clause-said : goal.returns-in-Iso8601-clause-said
returns-in-Iso8601-clause-said g c =
    let is = c.in-Iso8601.is in
    says_plain g.E.FromReason.is_of _ _ _ _ _ _ (rw is refl) (rw is refl) (rw is c.read_8601.ensures.said) c.or_unread-in-Iso8601.ensures

pub returns-in-Complete-clause-said : goal.returns-in-Complete-clause-said
returns-in-Complete-clause-said g c =
    let is = c.in-Complete.is in
    says_plain g.E.FromReason.is_of _ _ _ _ _ _ (rw is refl) (rw is refl) (rw is c.read_by.ensures.said) c.or_unread-in-Complete.ensures

pub returns-in-Described-clause-said : goal.returns-in-Described-clause-said
returns-in-Described-clause-said g c =
    let is = c.in-Described.is in
    says_plain g.E.FromReason.is_of _ _ _ _ _ _ (rw is refl) (rw is refl) (rw is c.read_with.ensures.said) c.or_unread-in-Described.ensures
