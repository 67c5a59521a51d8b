-- The place of the record's bit, and the number of the stored value behind it.
use mathlib.Core.Path.{refl}
use native.Mathlib.Omega.{arith}
use Rattle.nth.proofs.Laws.{number_small, has-bit, stands-so}
use Rattle.nth.proofs.stand_behind.Goals as goal

pub nth_one-p-requires : goal.nth_one-p-requires
nth_one-p-requires c = has-bit _ _ _ c.requires c.mask_bytes-n.ensures.0

pub overflow_add-r-2 : goal.overflow_add-r-2
overflow_add-r-2 c =
    omega (arith, number_small _ _ _ _ c.nth_one-p.result.0 _ c.number_of-number.ensures c.nth_one-p.ensures.inside c.mask_bytes-n.ensures.2)

pub returns : goal.returns
returns c =
    stands-so _ _ _ c.requires c.mask_bytes-n.ensures.0 c.nth_one-p.ensures c.stored_of-stored.ensures c.number_of-number.ensures refl
