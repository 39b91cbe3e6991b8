-- The phases of a record, at its address.
use Rattle.std.specs.Prelude.{ℕ, ◌+◌, ◌≡◌, List, [], ◌∷◌, ◌++◌, length}
use Rattle.std.proofs.Common.{arith, add-zero, sym, ap, ap₂, ◌∙◌, append_assoc, length-append}
use Rattle.spec.specs.Step.{Step, program, bytes_at, shifted}
use Rattle.spec.specs.Geometry.{up8}
use Rattle.spec.specs.Record.{four}
use Rattle.spec.specs.Write.{marker_steps, header_steps, name_end_steps, name_steps, data_steps, commit_steps, record_steps}
use Rattle.laws.specs.Steps.{shifted_append, shifted_bytes, length_bytes, length_shifted}

module _ (a : ℕ) where
  pub marker_at : shifted a marker_steps ≡ bytes_at a (0xFA ∷ 0x5A ∷ 0xF0 ∷ [])
  marker_at = shifted_bytes a 0 (0xFA ∷ 0x5A ∷ 0xF0 ∷ []) ∙ ap (λ (i : ℕ). bytes_at i (0xFA ∷ 0x5A ∷ 0xF0 ∷ [])) (add-zero a)

  pub header_at : (d : ℕ) → shifted a (header_steps d)
      ≡ bytes_at a (0xA5 ∷ 0x5A ∷ []) ++ (bytes_at (a + 4) (four d) ++ (program (a + 2) 0xFE ∷ []))
  header_at d =
      shifted_append a (bytes_at 0 (0xA5 ∷ 0x5A ∷ [])) (bytes_at 4 (four d) ++ (program 2 0xFE ∷ []))
      ∙ ap₂ ◌++◌ (shifted_bytes a 0 (0xA5 ∷ 0x5A ∷ []) ∙ ap (λ (i : ℕ). bytes_at i (0xA5 ∷ 0x5A ∷ [])) (add-zero a))
      (shifted_append a (bytes_at 4 (four d)) (program 2 0xFE ∷ [])
      ∙ ap (λ (l : List Step). l ++ (program (a + 2) 0xFE ∷ [])) (shifted_bytes a 4 (four d)))

  pub name_at : (name : List ℕ) → shifted a (name_steps name) ≡ bytes_at (a + 8) name ++ name_end_steps (a + (8 + length name))
  name_at name =
      shifted_append a (bytes_at 8 name) (name_end_steps (8 + length name))
      ∙ ap (λ (l : List Step). l ++ name_end_steps (a + (8 + length name))) (shifted_bytes a 8 name)

  pub opening_at : (d : ℕ) (name : List ℕ) → shifted a (header_steps d ++ name_steps name) ≡ shifted a (header_steps d) ++ shifted a
      (name_steps name)
  opening_at d name = shifted_append a (header_steps d) (name_steps name)

  pub closing_at : (n : ℕ) (content : List ℕ) → shifted a (data_steps n content ++ commit_steps)
      ≡ bytes_at (a + (8 + up8 (n + 1))) content ++ (program (a + 2) 0xFC ∷ [])
  closing_at n content =
      shifted_append a (data_steps n content) commit_steps
      ∙ ap (λ (l : List Step). l ++ (program (a + 2) 0xFC ∷ [])) (shifted_bytes a (8 + up8 (n + 1)) content)

  pub record_at : (name content : List ℕ) → shifted a (record_steps name content)
      ≡ shifted a (header_steps (length content) ++ name_steps name) ++ shifted a (data_steps (length name) content ++ commit_steps)
  record_at name content =
      let h = header_steps (length content) in
      let rest = data_steps (length name) content ++ commit_steps in
      ap (shifted a) (sym (append_assoc h (name_steps name) rest)) ∙ shifted_append a (h ++ name_steps name) rest

-- how many
pub header_count : (a d : ℕ) → length (shifted a (header_steps d)) ≡ 7
header_count a d = length_shifted a (header_steps d)

pub opening_count : (a d : ℕ) (name : List ℕ) → length (shifted a (header_steps d ++ name_steps name)) ≡ length name + 9
opening_count a d name =
    omega (
      arith,
      length_shifted a (header_steps d ++ name_steps name),
      length-append (header_steps d) (name_steps name),
      length-append (bytes_at 8 name) (name_end_steps (8 + length name)),
      length_bytes 8 name,
    )
