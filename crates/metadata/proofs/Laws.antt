-- Laws of the definitions, by which the functions' proofs go.
use mathlib.Core.Path.{◌≡◌, refl, sym, ap, ◌∙◌}
use mathlib.Core.List.{List, [], ◌∷◌}
use mathlib.Core.Bool.{Bool}
use Rattle.std.proofs.Common.{Option, None, Some}
use Prim.Native.Nat.{ℕ, suc, ◌+◌, ◌-◌, ◌≤◌, ◌<◌}
use native.Mathlib.Numerals.{add-one}
use native.Mathlib.Omega.{arith}
use Rattle.fields.specs.Parse.{Parse, got, fails, then, when, many, times}
use Rattle.fields.specs.Fields.{u32_field}
use Rattle.fields.proofs.Laws.{then-fails, then-then}
use Rattle.fields.specs.declared.Span.{Span}
use Rattle.metadata.specs.Metadata.{value_field, entry, metadata, latest, named, lookup}
use Rattle.metadata.specs.declared.ValueKind.{ValueKind}
use Rattle.metadata.specs.declared.MetadataValue.{MetadataValue}
use Rattle.metadata.specs.declared.Entry.{Entry}

-- a value is read by its kind, however that is known
pub of-kind : {kind kind' : ValueKind} (s : List ℕ) (k : Span) (n at : ℕ) {x : Parse MetadataValue} → kind ≡ kind' → x ≡ value_field s kind' k n at → x ≡ value_field s kind k n at
of-kind s k n at e h = rw e h

-- what a run of entries from the number i on finds, best being found before it
abbrev pub found : (ℕ → Entry → Bool) → ℕ → ℕ → List ℕ → ℕ → Option Entry → Parse (Option Entry)
found asked i k s p best = then (times (entry s) k p) λ es n. got (latest asked i es best) n

-- of those that are left, i of n being passed: one more is read, it is past the end, or none is left
module _ (asked : ℕ → Entry → Bool) (i n : ℕ) (s : List ℕ) (p : ℕ) (best : Option Entry) where
  pub left-more :
      (q : ℕ) (e : Entry) (next : Option Entry) → i < n → got e q ≡ entry s p → next ≡ when (asked i e) (Some e) best →
      found asked (i + 1) (n - (i + 1)) s q next ≡ found asked i (n - i) s p best
  unfolding many latest then
  left-more q e next h x y =
      let k : n - i ≡ suc (n - (i + 1)) = omega arith in
      rw (k, y, add-one i, ← x) (sym (then-then (times (entry s) (n - suc i) q) (λ es r. got (e ∷ es) r) (λ es r. got (latest asked i es best) r)))

  pub left-fails : (k : ℕ) → i < n → fails k ≡ entry s p → fails k ≡ found asked i (n - i) s p best
  unfolding many
  left-fails k h x =
      let e : n - i ≡ suc (n - (i + 1)) = omega arith in
      rw e (then-fails _ (then-fails _ x))

  pub left-none : n ≤ i → got best p ≡ found asked i (n - i) s p best
  unfolding many latest then
  left-none h =
      let e : n - i ≡ 0 = omega arith in
      rw e refl

-- the whole metadata, once its count is read
pub count-whole : (s name : List ℕ) (at n p : ℕ) → got n p ≡ u32_field s at → found (named s name) 0 (n - 0) s p None ≡ lookup s name at
unfolding lookup metadata then
count-whole s name at n p e =
    let k : n - 0 ≡ n = omega arith in
    rw (k, ← e)

-- where only the end of the metadata is wanted, what was looked up in it does not matter
module _ {B : Type 0} (s name : List ℕ) (at : ℕ) (f : List Entry → ℕ → Parse B) where
  pub metadata-got :
      {x : Parse B} {o : Option Entry} {n : ℕ} → got o n ≡ lookup s name at → ((es : List Entry) (n : ℕ) → f es n ≡ f [] n) → x ≡ f [] n → x ≡ then (metadata s at) f
  unfolding lookup then
  metadata-got {x} {o} {n} e k j = go (metadata s at) e
    where
      go : (m : Parse (List Entry)) → got o n ≡ then m (λ es n. got (latest (named s name) 0 es None) n) → x ≡ then m f
      go (got es p) e = (let z : n ≡ p = cc in j ∙ ap (f []) z ∙ sym (k es p))
      go (fails k) e = let z : ◌≡◌ {A = ℕ} 0 1 = cc in absurd (omega arith)

  pub metadata-fails : {k : ℕ} → fails k ≡ lookup s name at → fails k ≡ then (metadata s at) f
  unfolding lookup then
  metadata-fails {k} e = go (metadata s at) e
    where
      go : (m : Parse (List Entry)) → ◌≡◌ {A = Parse (Option Entry)} (fails k) (then m (λ es n. got (latest (named s name) 0 es None) n)) → ◌≡◌ {A = Parse B} (fails k) (then m f)
      go (got es p) e = let z : ◌≡◌ {A = ℕ} 0 1 = cc in absurd (omega arith)
      go (fails j) e = let z : k ≡ j = cc in ap fails z
