-- The three tests are those of the definition, and the first that fails ends them.
use Rattle.std.proofs.Common.{rules, ◌≡◌, ℕ, ℤ, Bool, true, false, sym, ap, ◌∙◌, ◌&&◌, eqb, eq-eqb, to_z, of_z, w32}
use Rattle.coordinates.specs.Coordinates.{aligned, remainder}
use Rattle.coordinates.proofs.is_aligned.Goals.{then-remainder_by-eq0, else-remainder_by-eq0}
use Rattle.coordinates.proofs.is_aligned.Goals as goal

-- t is the outcome of the first two tests
last : {t : Bool} {x y w : ℕ} (z : ℕ) → x ≡ 0 → t ≡ eqb w 0 → t ≡ true → w ≡ y → eqb z 0 ≡ (eqb x 0 && eqb y 0 && eqb z 0)
last z e f g h = rw (eq-eqb _ _ e, ← h, ← f, g)

second : {t : Bool} {x y w : ℕ} (z : ℕ) → x ≡ 0 → t ≡ eqb w 0 → t ≡ false → w ≡ y → t ≡ (eqb x 0 && eqb y 0 && eqb z 0)
second z e f g h = rw (eq-eqb _ _ e, ← h, ← f, g)

first : {t : Bool} {x w : ℕ} (y z : ℕ) → t ≡ eqb w 0 → t ≡ false → w ≡ x → t ≡ (eqb x 0 && eqb y 0 && eqb z 0)
first y z f g h = rw (← h, ← f, g)

-- a remainder as it was found, of a coordinate that is read back from its bits
pub returns-then-remainder_by-eq0-2 : goal.returns-then-remainder_by-eq0-2
unfolding aligned
returns-then-remainder_by-eq0-2 c =
    let x : to_z w32 (of_z w32 c.args.o.0) ≡ c.args.o.0 = search rules in
    let y : to_z w32 (of_z w32 c.args.o.1) ≡ c.args.o.1 = search rules in
    let z : to_z w32 (of_z w32 c.args.o.2) ≡ c.args.o.2 = search rules in
    let of = λ (v : ℤ). remainder v c.args.m in
    elim c.if-remainder_by-eq0.branch [
      | then-remainder_by-eq0 w ↦
          rw (c.remainder_by-then-remainder_by-eq0-2.ensures ∙ ap of z)
          (last _ (sym (c.remainder_by.ensures ∙ ap of x) ∙ w.if-remainder_by-eq0.true) w.value-is c.if-remainder_by-eq0-2.true (w.remainder_by-then-remainder_by-eq0.ensures ∙ ap of y))
      | else-remainder_by-eq0 w ↦ absurd (w.if-remainder_by-eq0.false (search rules))
    ]

pub returns-else-remainder_by-eq0-2 : goal.returns-else-remainder_by-eq0-2
unfolding aligned
returns-else-remainder_by-eq0-2 c =
    let x : to_z w32 (of_z w32 c.args.o.0) ≡ c.args.o.0 = search rules in
    let y : to_z w32 (of_z w32 c.args.o.1) ≡ c.args.o.1 = search rules in
    let of = λ (v : ℤ). remainder v c.args.m in
    elim c.if-remainder_by-eq0.branch [
      | then-remainder_by-eq0 w ↦
          second _ (sym (c.remainder_by.ensures ∙ ap of x) ∙ w.if-remainder_by-eq0.true) w.value-is c.if-remainder_by-eq0-2.false (w.remainder_by-then-remainder_by-eq0.ensures ∙ ap of y)
      | else-remainder_by-eq0 w ↦ first _ _ w.value-is c.if-remainder_by-eq0-2.false (c.remainder_by.ensures ∙ ap of x)
    ]
