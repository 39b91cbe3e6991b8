-- Erases, and steps (c) to (f) of a move: each programs a byte of the image that loses bits only, or erases a sector of it.
use Rattle.std.specs.Prelude.{ℕ, zero, suc, ◌+◌, ◌%◌, ◌≤◌, ◌<◌, ◌≡◌, refl, ◌⊎◌, Bool, true, false, List, [], ◌∷◌, ◌++◌, map, drop, set, leb, eqb}
use Rattle.std.proofs.Common.{arith, sym, ap, ◌∙◌, subst, length-set, length-drop, leb-true, eqb-true}
use Rattle.std.proofs.Math.ListN.{length, get_or}
use Rattle.spec.specs.declared.Place.{Place}
use Rattle.spec.specs.Step.{Image, Step, program, erase, apply, run}
use Rattle.spec.specs.Basics.{keep, Each}
use Rattle.spec.specs.Geometry.{floor, ceiling, sectors_by, sectors}
use Rattle.spec.specs.Record.{Entry, content_of, data_at, size}
use Rattle.spec.specs.Demand.{StepsSound}
use Rattle.spec.specs.Move.{start_steps, mark_here, mark_steps, clean_steps, vacated_end, vacated, forget_steps, close_steps}
use Rattle.spec.specs.Mount.{free_sectors, dirty, erase_steps}
use Rattle.laws.specs.Lists.{each_keep, each_append}
use Rattle.laws.specs.Parts.{Outside}
use Rattle.planning.specs.Effect.{erase_length, run_length, untouched_run, erases_off, erases_bounded}
use Rattle.planning.specs.Close.{mark_two, clean_bounded, cleans_off, start_bounded}
use Rattle.laws.specs.Steps.{sound_append}
use Rattle.replay.specs.Record.{zero_sound, known_sound}

-- ---- erases

-- a sector of an image of N bytes starts at a
abbrev pub SectorIn : ℕ → ℕ → Type 0
SectorIn N a = (a % 4096 ≡ 0) × (a + 4096 ≤ N)

pub erases_sound : (im : Image) (l : List ℕ) → Each (SectorIn (length im)) l → StepsSound im (map erase l)
erases_sound im [] h = tt
erases_sound im (a ∷ l) h =
    (h.0, erases_sound (apply im (erase a)) l (subst (λ (n : ℕ). Each (SectorIn n) l) (sym (erase_length im a h.0.1)) h.1))

sectors_in : (N b : ℕ) → b ≤ N → (k a : ℕ) → a % 4096 ≡ 0 → Each (SectorIn N) (sectors_by k a b)
unfolding sectors_by
sectors_in N b l zero a e = tt
sectors_in N b l (suc k) a e = go (leb (a + 4096) b) refl (sectors_in N b l k (a + 4096) (omega arith)) where
  go : (t : Bool) → leb (a + 4096) b ≡ t → Each (SectorIn N) (sectors_by k (a + 4096) b) → Each (SectorIn N) (sectors_by (suc k) a b)
  go true q ih = let m : a + 4096 ≤ b = leb-true (a + 4096) b q in rw (sectors_by, q) ((e, omega arith), ih)
  go false q ih = rw (sectors_by, q) tt

free_in : (N : ℕ) (p : Place) → floor p.head ≤ N → p.length ≤ N → Each (SectorIn N) (free_sectors p)
unfolding free_sectors
free_in N p l m = go p.turned refl where
  c : ceiling p.tail % 4096 ≡ 0
  c = omega arith

  go : (t : Bool) → p.turned ≡ t → Each (SectorIn N) (free_sectors p)
  go true e = rw (free_sectors, e) (sectors_in N (floor p.head) l (floor p.head) (ceiling p.tail) c)
  go false e =
      rw (free_sectors, e)
      (each_append (SectorIn N) (sectors 0 (floor p.head)) (sectors (ceiling p.tail) p.length)
      (sectors_in N (floor p.head) l (floor p.head) 0 refl) (sectors_in N p.length m p.length (ceiling p.tail) c))

-- repair 1's erases
pub erase_sound : (im : Image) (p : Place) → floor p.head ≤ length im → p.length ≤ length im → StepsSound im (erase_steps im p)
unfolding erase_steps
erase_sound im p l m =
    erases_sound im (keep (dirty im) (free_sectors p))
    (each_keep (SectorIn (length im)) (dirty im) (free_sectors p) (free_in (length im) p l m))

-- ---- (e): A0 to 80, 80 to 00

pub start_sound : (im : Image) (a low : ℕ) → a < length im → get_or im a 0 ≡ low → StepsSound im (start_steps a low)
start_sound im a low l e = go (eqb low 0xA0) refl where
  is : (t : Bool) → eqb low 0xA0 ≡ t
      → elim t [ true ↦ program a 0x80 ∷ (program a 0x00 ∷ []) | false ↦ program a 0x00 ∷ [] ] ≡ start_steps a low
  is t q =
      ap (λ (u : Bool). elim u as (λ v. List Step) [ true ↦ program a 0x80 ∷ (program a 0x00 ∷ []) | false ↦ program a 0x00 ∷ [] ]) (sym q)

  go : (t : Bool) → eqb low 0xA0 ≡ t → StepsSound im (start_steps a low)
  go true q =
      subst (StepsSound im) (is true q) (
        known_sound im a 0xA0 0x80 l (e ∙ eqb-true low 0xA0 q) refl,
        (zero_sound (set im a 0x80) a (omega (arith, length-set im a 0x80)), tt),
      )
  go false q = subst (StepsSound im) (is false q) (zero_sound im a l, tt)

-- ---- (c): second bytes to 00

abbrev Marked : Image → List Step → Type 0
Marked im ss = StepsSound im ss × (length (run im ss) ≡ length im)

mark_sound : (im : Image) (a : ℕ) (s : List ℕ) → ((j : ℕ) → j < length s → a + j < length im) → Marked im (mark_steps a s)
mark_sound im a s h = go (mark_here s) refl where
  is : (t : Bool) → mark_here s ≡ t → elim t [ true ↦ program (a + 1) 0x00 ∷ [] | false ↦ [] ] ≡ mark_steps a s
  is t q = ap (λ (u : Bool). elim u as (λ v. List Step) [ true ↦ program (a + 1) 0x00 ∷ [] | false ↦ [] ]) (sym q)

  go : (t : Bool) → mark_here s ≡ t → Marked im (mark_steps a s)
  go true q =
      subst (Marked im) (is true q)
      ((zero_sound im (a + 1) (h 1 (omega (arith, mark_two s q))), tt), length-set im (a + 1) 0x00)
  go false q = subst (Marked im) (is false q) (tt, refl)

clean_sound : (k : ℕ) (im : Image) (a : ℕ) (s : List ℕ) → ((j : ℕ) → j < length s → a + j < length im)
    → StepsSound im (clean_steps k a s)
unfolding clean_steps
clean_sound zero im a s h = tt
clean_sound (suc k) im a s h =
    let m : Marked im (mark_steps a s) = mark_sound im a s h in
    sound_append im (mark_steps a s) (clean_steps k (a + 8) (drop 8 s)) m.0
    (clean_sound k (run im (mark_steps a s)) (a + 8) (drop 8 s)
    (λ j l. omega (arith, m.1, h (8 + j) (omega (arith, l, length-drop 8 s)))))

-- ---- (c) to (f)

module _ (im : Image) (N : ℕ) (x y : Entry) (low : ℕ) (wide : x.at + size x ≤ length im) (inside : y.at < length im)
    (is : get_or im y.at 0 ≡ low) (off : Outside y.at x.at (size x)) (end : vacated_end N y ≤ length im)
    (past : (y.at < floor x.at) ⊎ (vacated_end N y ≤ y.at)) where
  abbrev cs : List Step
  cs = clean_steps (length (content_of x)) (data_at x) (content_of x)

  abbrev starts : List ℕ
  starts = vacated N x y

  forget_sound : (left : Image) → length left ≡ length im → (l : List ℕ) → StepsSound left (forget_steps x l)
  forget_sound left e [] = (zero_sound left (x.at + 1) (omega arith), tt)
  forget_sound left e (a ∷ l) = tt

  pub close_sound : StepsSound im (close_steps N x y low)
  unfolding close_steps
  close_sound =
      let one : Image = run im cs in
      let l-1 : length one ≡ length im = run_length im cs (clean_bounded (length im) (length (content_of x)) (data_at x) (content_of x)) in
      let two : Image = run one (map erase starts) in
      let l-2 : length two ≡ length im =
      run_length one (map erase starts) (erases_bounded (length one) (floor x.at) (vacated_end N y) (omega arith)) ∙ l-1 in
      let byte : get_or two y.at 0 ≡ low =
      untouched_run one (map erase starts) y.at (erases_bounded (length one) (floor x.at) (vacated_end N y) (omega arith))
      (erases_off (floor x.at) (vacated_end N y) y.at past)
      ∙ untouched_run im cs y.at (clean_bounded (length im) (length (content_of x)) (data_at x) (content_of x))
      (cleans_off N x y low y.at off) ∙ is in
      let three : Image = run two (start_steps y.at low) in
      sound_append im cs (map erase starts ++ (start_steps y.at low ++ forget_steps x starts))
      (clean_sound (length (content_of x)) im (data_at x) (content_of x) (λ j l. omega arith))
      (sound_append one (map erase starts) (start_steps y.at low ++ forget_steps x starts)
      (erases_sound one starts (sectors_in (length one) (vacated_end N y) (omega arith) (vacated_end N y) (floor x.at) (omega arith)))
      (sound_append two (start_steps y.at low) (forget_steps x starts) (start_sound two y.at low (omega arith) byte)
      (forget_sound three (run_length two (start_steps y.at low) (start_bounded (length two) y.at low) ∙ l-2) starts)))
