use Rattle.std.proofs.Common.{refl, eq-eqb, arith}
use Rattle.restamp_place.proofs.TextLemmas.{unset-nowhere, first-le, first-nowhere}
use Rattle.restamp_place.proofs.texts.first_in_block.Goals as goal

pub returns-then-hits-eq0-clause-passed : goal.returns-then-hits-eq0-clause-passed
returns-then-hits-eq0-clause-passed c =
    unset-nowhere _ (λ x. rw (eq-eqb x x refl) refl) c.args.bytes.now c.args.text.now c.args.at c.requires.some c.requires.within c.if-hits-eq0.true

pub returns-else-hits-eq0-clause-most : goal.returns-else-hits-eq0-clause-most
returns-else-hits-eq0-clause-most c =
    first-le _ (λ x. rw (eq-eqb x x refl) refl) c.args.bytes.now c.args.text.now c.args.at c.requires.some c.requires.within
    (omega (arith, c.if-hits-eq0.false))

pub returns-else-hits-eq0-clause-passed : goal.returns-else-hits-eq0-clause-passed
returns-else-hits-eq0-clause-passed c =
    first-nowhere _ (λ x. rw (eq-eqb x x refl) refl) c.args.bytes.now c.args.text.now c.args.at c.requires.some c.requires.within
    (omega (arith, c.if-hits-eq0.false))
