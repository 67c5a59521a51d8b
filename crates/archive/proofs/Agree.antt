-- What opening a file reads: two files that are the same there give the same.
use mathlib.Core.Path.{◌≡◌, refl, sym, ap, ap₂, ◌∙◌}
use mathlib.Core.List.{List, [], ◌∷◌}
use Rattle.std.proofs.Common.{Option, None, Some}
use mathlib.Core.Bool.{Bool, true, false, not, ◌||◌}
use Prim.Native.Nat.{ℕ, zero, suc}
use native.Mathlib.Omega.{arith}
use Rattle.fields.specs.Parse.{got, when}
use Rattle.fields.specs.Fields.{same_bytes}
use Rattle.fields.specs.declared.Span.{Span}
use Rattle.fields.proofs.Laws.{then-got, check-passes, Always, then-always, got-always, check-always}
use Rattle.fields.proofs.Agree.{Same, bytes_same, SameBytes, Each, each_append}
use Rattle.metadata.specs.Metadata.{latest}
use Rattle.metadata.proofs.Agree.{latest-same}
use Rattle.header.specs.Header
use Rattle.header.specs.declared.ArchiveHeader.{ArchiveHeader}
use Rattle.header.proofs.Agree.{header-tells}
use Rattle.descriptor.specs.declared.GridDescriptor.{GridDescriptor}
use Rattle.descriptor.proofs.Agree.{SameDescriptor, SameNames, descriptor-again}
use Rattle.fields.specs.Answer.{gives, answer}
use Rattle.archive.specs.Archive.{repeated, descriptors, file, File, is_asked, file_asked}
use Rattle.archive.specs.declared.AskedFile.{AskedFile}
use Rattle.archive.specs.declared.Asked.{Asked}
use Rattle.archive.specs.declared.Asked.TheVariants as A
use Rattle.fields.proofs.Answers.{with-gives, with-back, gives_same, answer-got, answer_back}

repeated-same : (s t name : List ℕ) (ws : List Span) → Each (SameBytes s t) ws → repeated s name ws ≡ repeated t name ws
unfolding repeated
repeated-same s t name [] h = refl
repeated-same s t name (w ∷ ws) h = ap₂ (λ (b : List ℕ) (x : Bool). same_bytes b name || x) (bytes_same w h.0) (repeated-same s t name ws h.1)

-- what the descriptors from `at` on read is the same in both files
abbrev pub SameGrids : List ℕ → List ℕ → ℕ → List GridDescriptor → Type 0
SameGrids s t at [] = Unit {0}
SameGrids s t at (d ∷ ds) = SameDescriptor s t at d × SameGrids s t d.end_pos ds

pub descriptors-again :
    (k : ℕ) (earlier : List Span) (s t : List ℕ) (h : ArchiveHeader) (at : ℕ) → Each (SameBytes s t) earlier →
    Always (λ ds e. SameGrids s t at ds → (got ds e ≡ descriptors t h k earlier at) × Each (SameNames s t) ds) (descriptors s h k earlier at)
unfolding descriptors
descriptors-again zero earlier s t h at i = got-always _ _ _ λ u. (refl, tt)
descriptors-again (suc k) earlier s t h at i = then-always _ _ _ λ d p e. check-always _ _ _ _ λ ok. then-always _ _ _ λ ds n f. got-always _ _ _ λ u.
    let q = descriptor-again s t h at d p e u.0 in
    let w = descriptors-again k _ s t h p (each_append (SameBytes s t) earlier (d.name ∷ []) i (q.1.0, tt)) ds n f (rw q.2 u.1) in
    let same = ap (λ (b : List ℕ). repeated s b earlier) (bytes_same d.name q.1.0) ∙ repeated-same s t _ earlier i in
    (then-got _ q.0 (check-passes 10 (sym ok ∙ ap not same) (then-got _ w.0 refl)), (q.1, w.1))

-- what opening a file reads is the same in both files: the header, and what its descriptors read
pub record SameFile (s t : List ℕ) (f : File) : Type 0 where
  pub header : (p : ℕ) → got f.header p ≡ Header.header s → Same s t 0 p
  pub grids : (p : ℕ) → got f.header p ≡ Header.header s → SameGrids s t p f.grids

pub file-again : (s t : List ℕ) → Always (λ f e. SameFile s t f → (got f e ≡ file t) × Each (SameNames s t) f.grids) (file s)
unfolding file
file-again s t = then-always _ _ _ λ h p e. then-always _ _ _ λ ds q f. got-always _ _ _ λ u.
    let w = descriptors-again _ [] s t h p tt ds q f (u.grids p e) in
    (then-got _ (header-tells.reads.again h p e (omega arith) (u.header p e)) (then-got _ w.0 refl), w.1)

asked-same : (s t : List ℕ) (asked : Asked) (name : List ℕ) (i : ℕ) (d : GridDescriptor) → SameNames s t d → is_asked s asked name i d ≡ is_asked t asked name i d
unfolding is_asked
asked-same s t A.Nothing name i d h = refl
asked-same s t A.ByName name i d h = ap (λ (b : List ℕ). same_bytes b name) (bytes_same d.name h.0)
asked-same s t (A.ByNumber n) name i d h = refl

-- P of what there is
abbrev pub Maybe : {A : Type 0} → (A → Type 0) → Option A → Type 0
Maybe P None = Unit {0}
Maybe P (Some a) = P a

when-maybe : {A : Type 0} (P : A → Type 0) (b : Bool) (a : A) (best : Option A) → P a → Maybe P best → Maybe P (when b (Some a) best)
unfolding when
when-maybe P true a best h k = h
when-maybe P false a best h k = k

latest-maybe : {A : Type 0} (P : A → Type 0) (asked : ℕ → A → Bool) (i : ℕ) (l : List A) (best : Option A) → Each P l → Maybe P best → Maybe P (latest asked i l best)
unfolding latest
latest-maybe P asked i [] best h k = k
latest-maybe P asked i (a ∷ l) best h k = latest-maybe P asked (suc i) l _ h.1 (when-maybe P (asked i a) a best h.0 k)

-- what opening a file reads is the same in both
abbrev pub SameOpening : List ℕ → List ℕ → Type 0
SameOpening s t = (f : File) (e : ℕ) → got f e ≡ file s → SameFile s t f

pub opened-again :
    (s t : List ℕ) (asked : Asked) (name : List ℕ) {o : AskedFile} → SameOpening s t → gives o ≡ file_asked s asked name →
    (gives o ≡ file_asked t asked name) × Maybe (SameNames s t) o.grid
unfolding file_asked
opened-again s t asked name u g =
    let y = with-back (answer (file s)) _ g in
    let z = answer_back (file s) y.1 in
    let w = file-again s t y.0 z.0 z.1 (u y.0 z.0 z.1) in
    let a = latest-same (SameNames s t) _ _ (asked-same s t asked name) 0 y.0.grids None w.1 in (
      with-gives _ (answer-got w.0) (y.2 ∙ ap (λ (d : Option GridDescriptor). gives (record { header = y.0.header; grid = d })) a),
      rw (ap (λ (o : AskedFile). o.grid) (gives_same y.2)) (latest-maybe (SameNames s t) _ 0 y.0.grids None w.1 tt),
    )
