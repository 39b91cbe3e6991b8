-- What ends a stretch of the chain: eight FF or its end, a marker where it turns. When it still does after bytes have changed.
use Rattle.std.specs.Prelude.{ℕ, ◌+◌, ◌-◌, ◌%◌, ◌≤◌, ◌<◌, ◌≡◌, refl, ◌⊎◌, Bool, true, false, List, length, take, get_or, ltb}
use Rattle.std.proofs.Common.{arith, sym, ap, ◌∙◌, inl, inr, ext_get_or, get_or-take, length-take-le, ltb-true, ltb-false}
use Rattle.spec.specs.declared.Next.{Next}
use Rattle.spec.specs.declared.Kind.{Kind}
use Rattle.spec.specs.Step.{Image}
use Rattle.spec.specs.Basics.{part, blank}
use Rattle.spec.specs.Next.{next, next_at, clear_at}
use Rattle.spec.specs.Chain.{allowed}
use Rattle.laws.specs.Fits.{Fits, allowed_fits}
use Rattle.planning.specs.Kinds.{tag, kind_told}
use Rattle.planning.specs.Row.{stretch_length, stretch_byte, kind_at}
use Rattle.planning.specs.Frame.{Same}
use Rattle.planning.specs.Spots.{Free, blank_bytes, next_kind, next_clear, next_over, over_end}

-- x stands at b in the stretch that ends at lim, behind an unfinished record or not (o)
abbrev pub Stop : Image → ℕ → Bool → ℕ → Next → Type 0
Stop im lim o b x = allowed o (next (part b lim im)) ≡ x

-- ---- what may end a stretch

-- a chain that does not turn, with f = floor(h)
pub data EndsHere (f : ℕ) : Next → Type 0 where
  here_clear : EndsHere f Next.Clear
  here_over : f ≡ 0 → EndsHere f Next.Over

-- one that turns
pub data Turns : Next → Type 0 where
  turn_wrap : Turns Next.Wrap
  turn_over : Turns Next.Over

-- after the turn
pub data EndsLow : Next → Type 0 where
  low_clear : EndsLow Next.Clear
  low_over : EndsLow Next.Over

pub here_tag : {f : ℕ} {x : Next} → EndsHere f x → (3 ≤ tag x) × (tag x ≤ 4)
here_tag here_clear = (omega arith, omega arith)
here_tag (here_over q) = (omega arith, omega arith)

pub turn_tag : {x : Next} → Turns x → (1 ≤ tag x) × (tag x ≤ 4)
turn_tag turn_wrap = (omega arith, omega arith)
turn_tag turn_over = (omega arith, omega arith)

pub low_tag : {x : Next} → EndsLow x → (3 ≤ tag x) × (tag x ≤ 4)
low_tag low_clear = (omega arith, omega arith)
low_tag low_over = (omega arith, omega arith)

-- ---- behind an unfinished record

-- what is allowed and breaks no rule is what stands there
pub allowed_own : (o : Bool) (x y : Next) → allowed o x ≡ y → tag y ≤ 4 → x ≡ y
allowed_own false x y e h = e
allowed_own true (Next.Record n d) y e h = absurd (omega (arith, ap tag e))
allowed_own true Next.Wrap y e h = absurd (omega (arith, ap tag e))
allowed_own true Next.TornWrap y e h = absurd (omega (arith, ap tag e))
allowed_own true Next.Clear y e h = e
allowed_own true Next.Over y e h = e
allowed_own true Next.Bad y e h = e

-- an end is allowed
pub allowed_end : (o : Bool) {x : Next} (y : Next) → x ≡ y → 3 ≤ tag y → allowed o x ≡ y
allowed_end false y e h = e
allowed_end true (Next.Record n d) e h = absurd (omega arith)
allowed_end true Next.Wrap e h = absurd (omega arith)
allowed_end true Next.TornWrap e h = absurd (omega arith)
allowed_end true Next.Clear e h = ap (allowed true) e
allowed_end true Next.Over e h = ap (allowed true) e
allowed_end true Next.Bad e h = ap (allowed true) e

-- ---- the same bytes

pub stretch_same : (im left : Image) (b lim : ℕ) → length left ≡ length im → b ≤ lim → lim ≤ length im → Same im left b lim
    → part b lim left ≡ part b lim im
stretch_same im left b lim e h l s =
    let p = stretch_length left b lim h (omega arith) in
    let q = stretch_length im b lim h l in
    ext_get_or 0 (part b lim left) (part b lim im) (omega arith)
    (λ i g. stretch_byte left b lim i (omega arith) ∙ s (b + i) (omega arith) (omega arith) ∙ sym (stretch_byte im b lim i (omega arith)))

module _ (im left : Image) (o : Bool) (b : ℕ) (len : length left ≡ length im) where
  pub stop_same : (lim : ℕ) {x : Next} → b ≤ lim → lim ≤ length im → Same im left b lim → Stop im lim o b x → Stop left lim o b x
  stop_same lim h l s e = ap (λ (t : List ℕ). allowed o (next t)) (stretch_same im left b lim len h l s) ∙ e

  -- up to N
  pub stop_last : {x : Next} → b ≤ length im → Same im left b (length im) → Stop im (length im) o b x → Stop left (length left) o b x
  stop_last h s e = ap (λ (k : ℕ). allowed o (next (part b k left))) len ∙ stop_same (length im) h (omega arith) s e

-- ---- eight FF, and back to the bytes

clear_blank : (s : List ℕ) (t : Bool) → blank (take 8 s) ≡ t → clear_at s ≡ Next.Clear → blank (take 8 s) ≡ true
unfolding clear_at
clear_blank s true e h = e
clear_blank s false e h = let q : Next.Bad ≡ Next.Clear = rw (clear_at, e) at h in absurd (omega (arith, ap tag q))

clear_only : (k : Kind) (s : List ℕ) → next_at k s ≡ Next.Clear → blank (take 8 s) ≡ true
unfolding next_at
clear_only k s e =
    let q : k ≡ Kind.Clear = kind_told k s Next.Clear e (omega arith) (omega arith) in
    clear_blank s _ refl (sym (ap (λ (j : Kind). next_at j s) q) ∙ e)

pub clear_free : (im : Image) (b lim : ℕ) → b ≤ lim → lim ≤ length im → next (part b lim im) ≡ Next.Clear
    → (b + 8 ≤ lim) × Free im b (b + 8)
clear_free im b lim h l e =
    let s : List ℕ = part b lim im in
    let f : Fits (next s) (length s) = allowed_fits false s in
    let eight : 8 ≤ length s = rw e at f in
    let len = stretch_length im b lim h l in
    let in-8 : b + 8 ≤ lim = omega arith in
    let bl : blank (take 8 s) ≡ true = clear_only (kind_at im b) s (sym (next_kind im b lim l in-8) ∙ e) in (
      in-8,
      λ i p q.
          let m : length (take 8 s) ≡ 8 = length-take-le 8 s eight in
          let k : b + (i - b) ≡ i = omega arith in
          ap (λ (n : ℕ). get_or im n 0) (sym k) ∙ sym (stretch_byte im b lim (i - b) (omega arith))
          ∙ sym (get_or-take 8 s (i - b) 0 (omega arith))
          ∙ blank_bytes (take 8 s) bl (i - b) (omega arith),
    )

-- what ends a stretch after the turn: its end, or eight FF
pub low_ends : (im : Image) (o : Bool) (T lim : ℕ) (y : Next) → T ≤ lim → lim ≤ length im → Stop im lim o T y → EndsLow y
    → (T ≡ lim) ⊎ ((T + 8 ≤ lim) × Free im T (T + 8))
low_ends im o T lim y h l e low_clear = inr (clear_free im T lim h l (allowed_own o (next (part T lim im)) Next.Clear e (omega arith)))
low_ends im o T lim y h l e low_over = inl (over_end im T lim l h (allowed_own o (next (part T lim im)) Next.Over e (omega arith)))

-- eight FF end a stretch, and so does its end
pub stop_clear : (im : Image) (o : Bool) (b lim : ℕ) → lim ≤ length im → b + 8 ≤ lim → Free im b (b + 8) → Stop im lim o b Next.Clear
stop_clear im o b lim l h f = allowed_end o Next.Clear (next_clear im b lim l h f) (omega arith)

pub stop_over : (im : Image) (o : Bool) (b lim : ℕ) → lim ≤ length im → b ≡ lim → Stop im lim o b Next.Over
stop_over im o b lim l e = allowed_end o Next.Over (next_over im b lim l e) (omega arith)

-- an end stays where what was FF is FF
pub end_kept : (im left : Image) (o : Bool) (b lim lim' : ℕ) (x : Next) → lim ≤ length im → lim' ≤ length left → lim' ≡ lim → b ≤ lim
    → 3 ≤ tag x → tag x ≤ 4 → ((i : ℕ) → get_or im i 0 ≡ 0xFF → get_or left i 0 ≡ 0xFF) → Stop im lim o b x → Stop left lim' o b x
end_kept im left o b lim lim' (Next.Record n d) l l' q h u v f e = absurd (omega arith)
end_kept im left o b lim lim' Next.Wrap l l' q h u v f e = absurd (omega arith)
end_kept im left o b lim lim' Next.TornWrap l l' q h u v f e = absurd (omega arith)
end_kept im left o b lim lim' Next.Clear l l' q h u v f e =
    let k = clear_free im b lim h l (allowed_own o (next (part b lim im)) Next.Clear e (omega arith)) in
    stop_clear left o b lim' l' (omega (arith, k.0)) (λ i a c. f i (k.1 i a c))
end_kept im left o b lim lim' Next.Over l l' q h u v f e =
    stop_over left o b lim' l' (over_end im b lim l h (allowed_own o (next (part b lim im)) Next.Over e (omega arith)) ∙ sym q)
end_kept im left o b lim lim' Next.Bad l l' q h u v f e = absurd (omega arith)

-- FF up to the end of a stretch, in words
pub free_stop : (im : Image) (o : Bool) (T lim : ℕ) → lim ≤ length im → T ≤ lim → T % 8 ≡ 0 → lim % 8 ≡ 0 → Free im T lim
    → ((T ≡ lim) × Stop im lim o T Next.Over) ⊎ ((T < lim) × Stop im lim o T Next.Clear)
free_stop im o T lim l h p q f = go (ltb T lim) refl where
  go : (t : Bool) → ltb T lim ≡ t → ((T ≡ lim) × Stop im lim o T Next.Over) ⊎ ((T < lim) × Stop im lim o T Next.Clear)
  go true e =
      let g : T < lim = ltb-true T lim e in
      inr (g, stop_clear im o T lim l (omega arith) (λ i a b. f i a (omega arith)))
  go false e =
      let g : lim ≤ T = ltb-false T lim e in
      let z : T ≡ lim = omega arith in
      inl (z, stop_over im o T lim l z)
