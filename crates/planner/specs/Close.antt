-- Steps (c) to (f) of a move from the image as it is, with Y told by its address.
use Rattle.std.specs.Prelude.{ℕ, ◌+◌, ◌≤◌, ◌<◌, ◌≡◌, refl, List, [], ◌∷◌, ◌++◌, length, drop}
use Rattle.std.proofs.Common.{arith, add-zero, add_assoc, sym, ap, ap₂, ◌∙◌, length-drop, length-take-le, drop-drop}
use Rattle.spec.specs.Step.{Image, Step, program}
use Rattle.spec.specs.Geometry.{floor, sectors}
use Rattle.spec.specs.Record.{Entry}
use Rattle.spec.specs.Move.{mark_steps, clean_steps, vacated_end, vacated, vacated_steps}
use Rattle.spec.specs.Move.{start_steps, forget_steps, vacate_steps, close_steps}
use Rattle.laws.specs.Sectors.{sectors_none, sectors_more}
use Rattle.moving.specs.Clean.{cleaning, clean_next, clean_none, mark_as_was, data_from, cleaned_steps}
use Rattle.window.specs.declared.Emitter.{Emitter}
use Rattle.window.specs.Handed.{Handed, Leads, leads_all, leads_more, leads_end}

-- a record at this address: steps (d) to (f) ask no more of it
abbrev pub standing : ℕ → Entry
standing a = record { at = a; it = record { low = 0; status = 0; name = []; content = [] } }

-- ---- (c), at the i-th of the d bytes from at on

abbrev pub Pairs : Emitter → Image → ℕ → ℕ → Emitter → ℕ → Type 0
Pairs w image at d q i = Leads w (clean_steps d at (data_from at d image)) q (cleaning (at + i) (drop i (data_from at d image)))

module _ (image : Image) (at d : ℕ) (h : at + d ≤ length image) where
  d_bytes : length (data_from at d image) ≡ d
  d_bytes = length-take-le d (drop at image) (rw length-drop (omega arith))

  pub pairs_start : (w : Emitter) → Pairs w image at d w 0
  pairs_start w = rw (add-zero, d_bytes) (leads_all w (clean_steps d at (data_from at d image)))

  module _ {w q : Emitter} (i : ℕ) (l : Pairs w image at d q i) where
    pub pairs_more : {r : Emitter} → i + 1 < d → Handed q (mark_steps (at + i) (drop (at + i) image)) r → Pairs w image at d r (i + 8)
    pairs_more k f =
        let n : 0 < length (drop i (data_from at d image)) = rw (length-drop, d_bytes) (omega arith) in
        leads_more l
        (clean_next (at + i) (drop i (data_from at d image)) n
        ∙ ap₂ ◌++◌ (sym (mark_as_was image at d i k)) (rw (add_assoc, drop-drop 8 i (data_from at d image)))) f

    pub pairs_end : d ≤ i + 1 → Handed w (clean_steps d at (data_from at d image)) q
    pairs_end k = leads_end l (clean_none (at + i) (drop i (data_from at d image)) (rw (length-drop, d_bytes) (omega arith)))

-- ---- (d) to (f), by addresses

module _ (x : Entry) {from to : ℕ} (begin : from ≡ floor x.at) where
  pub forget_none : from + 4096 ≤ to → forget_steps x (sectors (floor x.at) to) ≡ []
  forget_none h = rw (← begin) (ap (forget_steps x) (sectors_more from to h))

  pub forget_this : to < from + 4096 → forget_steps x (sectors (floor x.at) to) ≡ program (x.at + 1) 0x00 ∷ []
  forget_this h = rw (← begin) (ap (forget_steps x) (sectors_none from to h))

forget_at : (x : Entry) (starts : List ℕ) → forget_steps x starts ≡ forget_steps (standing x.at) starts
forget_at x [] = refl
forget_at x (a ∷ rest) = refl

-- X and Y may be told by their addresses
pub close_at : (N : ℕ) (x y : Entry) (low : ℕ)
    → close_steps N x y low
    ≡ cleaned_steps x ++ vacate_steps (standing x.at) (standing y.at) low (sectors (floor x.at) (vacated_end N (standing y.at)))
unfolding close_steps vacated_end
close_at N x y low =
    let starts : List ℕ = vacated N x y in
    ap (λ (f : List Step). cleaned_steps x ++ (vacated_steps starts ++ (start_steps y.at low ++ f)))
    (forget_at x starts)

pub close_same : (N : ℕ) (x y z : Entry) (low : ℕ) → y.at ≡ z.at → close_steps N x y low ≡ close_steps N x z low
close_same N x y z low e =
    close_at N x y low
    ∙ ap (λ (a : ℕ). cleaned_steps x ++ vacate_steps (standing x.at) (standing a) low
    (sectors (floor x.at) (vacated_end N (standing a)))) e
    ∙ sym (close_at N x z low)
