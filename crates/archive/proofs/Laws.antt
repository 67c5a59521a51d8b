-- Laws of the definitions, by which the functions' proofs go.
use mathlib.Core.Path.{◌≡◌, refl, ◌∙◌}
use mathlib.Core.List.{List, [], ◌∷◌, ◌++◌}
use Rattle.std.proofs.Common.{Option, None, Some, ok_or}
use Rattle.fields.specs.Says.{says_answer}
use Rattle.fields.specs.declared.ParseError.TheVariants.{NotFound}
use mathlib.Core.Bool.{Bool, true, false, not}
use Prim.Native.Nat.{ℕ, suc, ◌+◌, ◌-◌, ◌≤◌, ◌<◌}
use native.Mathlib.Omega.{arith}
use native.Mathlib.Numerals.{add-one}
use lib.ListN.{length, get_or, take, drop, set, drop_of_length-le}
use lib.Seq.{drop-cons, take-suc-set}
use Rattle.fields.specs.Parse.{Parse, got, fails, then, when, check}
use Rattle.fields.specs.Fields.{bytes_of, same_bytes}
use Rattle.fields.specs.declared.Span.{Span}
use Rattle.fields.proofs.Laws.{then-got, then-fails, check-passes, check-fails, then-then, check-then}
use Rattle.metadata.specs.Metadata.{latest}
use Rattle.fields.specs.Answer.{Answer, gives, refuses, answer, with}
use Rattle.archive.specs.Archive.{present, repeated, descriptors, File, file, open_file, is_asked, asked_of, file_asked}
use Rattle.archive.specs.declared.AskedFile.{AskedFile}
use Rattle.header.specs.Header.{header}
use Rattle.archive.specs.Inner.{next_field, grids_field}
use Rattle.header.specs.declared.ArchiveHeader.{ArchiveHeader}
use Rattle.archive.specs.declared.Asked.{Asked}
use Rattle.archive.specs.declared.Asked.TheVariants as A
use Rattle.descriptor.specs.declared.GridDescriptor.{GridDescriptor}

-- whether a grid is asked for, by the question, however that is known
pub asked_is : {asked asked' : Asked} (s name : List ℕ) (i : ℕ) (d : GridDescriptor) {x : Bool} → asked ≡ asked' → x ≡ is_asked s asked' name i d → x ≡ is_asked s asked name i d
asked_is s name i d e h = rw e h

-- check 11 refuses what is not there
pub present-answer : {A : Type 0} (o : Option A) → says_answer (ok_or o NotFound) ≡ present o
unfolding present
present-answer (Some a) = refl
present-answer None = refl

-- a name among those from the k-th on: the k-th, whose bytes are a, is it, or is not, or none is left
module _ (s name : List ℕ) (ws : List Span) (k : ℕ) where
  pub repeated-here : (w : Span) {a : List ℕ} {t : Bool} → k < length ws → t ≡ same_bytes a name → a ≡ bytes_of s (get_or ws k w) → t ≡ true → true ≡ repeated s name (drop k ws)
  unfolding repeated
  repeated-here w h e y x = rw (drop-cons ws k w h, ← y, ← e, x)

  pub repeated-later :
      (w : Span) {a : List ℕ} {t : Bool} → k < length ws → t ≡ same_bytes a name → a ≡ bytes_of s (get_or ws k w) → t ≡ false →
      repeated s name (drop (k + 1) ws) ≡ repeated s name (drop k ws)
  unfolding repeated
  repeated-later w h e y x = rw (add-one k, drop-cons ws k w h, ← y, ← e, x)

  pub repeated-end : length ws ≤ k → false ≡ repeated s name (drop k ws)
  unfolding repeated
  repeated-end h = rw (drop_of_length-le ws h)

-- check 10, by what the name's bytes a are
module _ (s : List ℕ) (ws : List Span) (w : Span) where
  pub check-repeated : {a : List ℕ} {t : Bool} (p : Parse GridDescriptor) → t ≡ repeated s a ws → t ≡ true → a ≡ bytes_of s w → fails 10 ≡ check (not (repeated s (bytes_of s w) ws)) 10 p
  check-repeated p h e k = check-fails p (rw (← k, ← h, e) refl)

  pub check-new : {a : List ℕ} {t : Bool} {p x : Parse GridDescriptor} → t ≡ repeated s a ws → t ≡ false → a ≡ bytes_of s w → x ≡ p → x ≡ check (not (repeated s (bytes_of s w) ws)) 10 p
  check-new h e k j = check-passes 10 (rw (← k, ← h, e) refl) j

-- The descriptors that are left, i of count being passed: one more is read, it is refused, or none is left.
module _ (s : List ℕ) (h : ArchiveHeader) (asked : Asked) (name : List ℕ) (i : ℕ) (best : Option GridDescriptor) where
  grids-step :
      (k p : ℕ) (earlier : List Span) →
      (then (next_field s h earlier p) λ d q. grids_field s h k (earlier ++ (d.name ∷ [])) (suc i) asked name (when (is_asked s asked name i d) (Some d) best) q) ≡
      grids_field s h (suc k) earlier i asked name best p
  unfolding grids_field descriptors latest then
  grids-step k p earlier = simp (then-then, check-then)

  module _ (count p : ℕ) (names : List Span) where
    pub grids-more :
        (d : GridDescriptor) (q : ℕ) (found : Option GridDescriptor) → i < count → count ≤ 64 → length names ≡ 64 → got d q ≡ next_field s h (take i names) p →
        found ≡ when (is_asked s asked name i d) (Some d) best →
        grids_field s h (count - (i + 1)) (take (i + 1) (set names i d.name)) (i + 1) asked name found q ≡ grids_field s h (count - i) (take i names) i asked name best p
    grids-more d q found l m j e z =
        let k : count - i ≡ suc (count - (i + 1)) = omega arith in
        rw (k, z, add-one i, take-suc-set names i d.name (omega arith)) (then-got _ e refl ∙ grids-step _ p (take i names))

    pub grids-fails : (j : ℕ) → i < count → fails j ≡ next_field s h (take i names) p → fails j ≡ grids_field s h (count - i) (take i names) i asked name best p
    grids-fails j l e =
        let k : count - i ≡ suc (count - (i + 1)) = omega arith in
        rw k (then-fails _ e ∙ grids-step _ p (take i names))

    pub grids-none : count ≤ i → got best p ≡ grids_field s h (count - i) (take i names) i asked name best p
    unfolding grids_field descriptors latest then
    grids-none l =
        let k : count - i ≡ 0 = omega arith in
        rw k

pub grids-all : (s : List ℕ) (h : ArchiveHeader) (asked : Asked) (name : List ℕ) (count at : ℕ) →
    grids_field s h (count - 0) [] 0 asked name None at ≡ grids_field s h count [] 0 asked name None at
grids-all s h asked name count at =
    let e : count - 0 ≡ count = omega arith in
    rw e

-- a file in parts: its header, then its grids with the one that is asked for
with-answer : {A B : Type 0} (g : A → B) (m : Parse A) → with (answer m) (λ a. gives (g a)) ≡ answer (then m λ a n. got (g a) n)
unfolding with answer then
with-answer g (got a n) = refl
with-answer g (fails k) = refl

pub in_parts :
    (s : List ℕ) (asked : Asked) (name : List ℕ) {x : Answer AskedFile} →
    x ≡ answer (then (header s) λ h p. then (grids_field s h h.grid_count [] 0 asked name None p) λ f n. got (record { header = h; grid = f }) n) →
    x ≡ file_asked s asked name
unfolding file_asked file grids_field then
in_parts s asked name h = simp (with-answer (asked_of s asked name), then-then) (simp then-then at h)

-- opening asks for no grid
pub open_by : (s : List ℕ) {x : Answer ArchiveHeader} → x ≡ with (file_asked s A.Nothing []) (λ o. gives o.header) → x ≡ open_file s
unfolding file_asked open_file with
open_by s h = h ∙ go (answer (file s))
  where
    go : (m : Answer File) → with (with m λ f. gives (asked_of s A.Nothing [] f)) (λ o. gives o.header) ≡ with m (λ f. gives f.header)
    go (gives f) = refl
    go (refuses k) = refl
