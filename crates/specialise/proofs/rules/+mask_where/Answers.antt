use Rattle.std.proofs.Common.{◌∙◌, refl}
use Rattle.std.proofs.lemmas.Fn.{says_at}
use Rattle.specialise.proofs.Masks.{first_mask, rest_few}
use Rattle.specialise.proofs.rules.+mask_where.Goals as goal

pub with_first-requires : goal.with_first-requires
with_first-requires g t c =
    rest_few c.args.candidates.now c.mask_where-rest.result c.mask_where-rest.ensures.below c.in-len1-up.len_at_least c.requires.few

pub returns-in-len1-up-clause-mask : goal.returns-in-len1-up-clause-mask
returns-in-len1-up-clause-mask g t c = λ passes tells.
    c.with_first.ensures ∙ first_mask passes c.args.candidates.now _ c.test.result c.mask_where-rest.result c.in-len1-up.len_at_least
    (tells _ _ (says_at g.F.Fn c.test.ensures refl)) (c.mask_where-rest.ensures.mask passes tells)
