-- A record as it stands in the image, for its copy: name and content are parts of the image.
use Rattle.std.specs.Prelude.{ℕ, ◌+◌, ◌-◌, ◌≡◌, List, length, take, drop, get_or}
use Rattle.std.proofs.Common.{arith, sym, ap, ap₂, ◌∙◌, get_or-drop, drop-drop}
use Rattle.std.proofs.Math.Option.{some}
use Rattle.spec.specs.declared.Place.{Place}
use Rattle.spec.specs.declared.Status.{Status}
use Rattle.spec.specs.Step.{Image}
use Rattle.spec.specs.Geometry.{up8}
use Rattle.spec.specs.Record.{name_of, content_of}
use Rattle.spec.specs.Write.{put_steps}
use Rattle.chain.specs.declared.Spot.{Spot}
use Rattle.chain.specs.Rest.{entry_of}
use Rattle.chain.specs.Fold.{Whole, name_length_is, content_length_is}
use Rattle.chain.specs.FileLaws.{name_part}
use Rattle.writing.specs.Answers.{Old, old_at}
use Rattle.writing.specs.Old.{old_of, old_entry, put_old}
use Rattle.writing.specs.Put.{Ready}

-- the bytes of the name, and of the content behind u bytes of name, end and padding
abbrev pub name_bytes : Image → Spot → List ℕ
name_bytes image x = take (x.at + 8 + x.n - (x.at + 8)) (drop (x.at + 8) image)

abbrev pub content_bytes : Image → Spot → ℕ → List ℕ
content_bytes image x u = take (x.at + 8 + u + x.d - (x.at + 8 + u)) (drop (x.at + 8 + u) image)

module _ (image : Image) (x : Spot) where
  pub name_is : name_bytes image x ≡ name_of (entry_of image x)
  name_is = name_part image x.at x.n

  pub content_is : (u : ℕ) → u ≡ up8 (x.n + 1) → content_bytes image x u ≡ content_of (entry_of image x)
  content_is u e =
      let q : x.at + 8 + u + x.d - (x.at + 8 + u) ≡ x.d = omega arith in
      ap₂ take q (sym (ap (drop u) (drop-drop 8 x.at image) ∙ drop-drop u (x.at + 8) image))
      ∙ ap (λ (i : ℕ). take x.d (drop i (drop 8 (drop x.at image)))) e

  -- its status is the byte that is read
  old_here : (st : Status) → st.byte ≡ get_or image (x.at + 2) 0 → old_at x.at st ≡ old_of (some (entry_of image x))
  old_here st b = ap (λ (i : ℕ). old_at x.at (record { byte = i })) (b ∙ sym (get_or-drop x.at image 2 0))

  -- so the steps are those of the record's copy
  pub copy_is : (p : Place) (st : Status) (u : ℕ) → st.byte ≡ get_or image (x.at + 2) 0 → u ≡ up8 (x.n + 1)
      → put_steps p (old_entry (old_at x.at st)) (name_bytes image x) (content_bytes image x u)
      ≡ put_steps p (some (entry_of image x)) (name_of (entry_of image x)) (content_of (entry_of image x))
  copy_is p st u b e =
      let v = entry_of image x in
      ap (λ (o : Old). put_steps p (old_entry o) (name_bytes image x) (content_bytes image x u)) (old_here st b)
      ∙ put_old p (some v) (name_bytes image x) (content_bytes image x u)
      ∙ ap₂ (put_steps p (some v)) name_is (content_is u e)

  pub copy_ready : (p : Place) (N u passed : ℕ) → Whole image x → u ≡ up8 (x.n + 1) → Ready p N x.n x.d passed
      → Ready p N (length (name_bytes image x)) (length (content_bytes image x u)) passed
  copy_ready p N u passed w e r =
      let n : length (name_bytes image x) ≡ x.n = ap length name_is ∙ name_length_is image x w in
      let d : length (content_bytes image x u) ≡ x.d = ap length (content_is u e) ∙ content_length_is image x w in
      rw (n, d) r
