-- A field that a reader read is the field at its position, and the reader stands behind it.
use Rattle.std.proofs.Common.{◌≡◌, ℕ, List, Bor, sym, ap, ◌∙◌}
use Rattle.fields.specs.Parse.{Parse}
use Rattle.reader.specs.Reader.{reader_at, next_at, reading}
use Rattle.reader.specs.declared.Reader.{Reader}

module _ {A : Type 0} (field : List ℕ → ℕ → Parse A) {s : Bor (List ℕ)} {at : ℕ} {r next : Reader} {p : Parse A} (e : (p, next) ≡ reading field r) (h : r ≡ reader_at s at) where
  pub read-here : p ≡ field s.now at
  read-here = ap (λ (x : Parse A × Reader). x.0) e ∙ ap (λ (r : Reader). field r.src.now r.at) h

  pub stands : next ≡ reader_at s (next_at p at)
  stands =
      ap (λ (x : Parse A × Reader). x.1) e ∙ ap (λ (q : Parse A). reader_at r.src (next_at q r.at)) (sym (ap (λ (x : Parse A × Reader). x.0) e))
      ∙ ap (λ (r : Reader). reader_at r.src (next_at p r.at)) h
