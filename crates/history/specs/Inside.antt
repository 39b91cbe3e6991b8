-- What is read of any image, whatever its bytes, lies inside it; and steps inside it keep its length.
use Rattle.std.specs.Prelude.{ℕ, zero, suc, ◌+◌, ◌≤◌, ◌≡◌, refl, Bool, List, [], ◌∷◌, ◌++◌, length, take, drop, set, eqb}
use Rattle.std.proofs.Common.{arith, ◌∙◌, subst, length-drop, length-take, length-set}
use Rattle.std.proofs.Math.Bool.{true, false}
use Rattle.spec.specs.declared.Next.{Next}
use Rattle.spec.specs.Step.{Image, Step, program, erase, apply, run}
use Rattle.spec.specs.Basics.{give, Each, numbered}
use Rattle.spec.specs.Bytes.{is_unfinished}
use Rattle.spec.specs.Geometry.{floor, up8}
use Rattle.spec.specs.Record.{size_of, status_of, rec_of, Entry, size}
use Rattle.spec.specs.Next.{next}
use Rattle.spec.specs.Chain.{Chain, add, stop, allowed, chain, from_head, from_zero, Reading, read_straight, read_turned, turn_torn, joined, read_on, reading_from}
use Rattle.spec.specs.Head.{head}
use Rattle.spec.specs.Reading.{legal, judged, read_at, reading}
use Rattle.spec.specs.Door.{settled_reading}
use Rattle.laws.specs.Lists.{each_append}
use Rattle.laws.specs.Steps.{Programs}
use Rattle.history.specs.Erase.{erases_length}
use Rattle.laws.specs.Answer.{gave, passed}
use Rattle.laws.specs.Door.{settled_gives}
use Rattle.laws.specs.Fits.{Fits, allowed_fits}

-- ---- the chain

-- a record ends at N at most
abbrev pub Within : ℕ → Entry → Type 0
Within N e = e.at + size e ≤ N

rec_size : (s : List ℕ) (at n d : ℕ) → size (record { at = at; it = rec_of s n d }) ≤ size_of n d
rec_size s at n d = omega (arith, length-take n (drop 8 s), length-take d (drop (up8 (n + 1)) (drop 8 s)))

chain_within : (k : ℕ) (pending : Bool) (at : ℕ) (s : List ℕ) (N : ℕ) → (1 ≤ length s → at + length s ≤ N)
    → Each (Within N) (chain k pending at s).entries
unfolding chain
chain_within zero pending at s N h = tt
chain_within (suc k) pending at s N h =
    go (allowed pending (next s)) (allowed_fits pending s)
    (λ n d. chain_within k (is_unfinished (status_of s)) (at + size_of n d) (drop (size_of n d) s) N)
  where
    go : (x : Next) → Fits x (length s)
        → ((n d : ℕ) → (1 ≤ length (drop (size_of n d) s) → at + size_of n d + length (drop (size_of n d) s) ≤ N)
        → Each (Within N) (chain k (is_unfinished (status_of s)) (at + size_of n d) (drop (size_of n d) s)).entries) →
        Each (Within N) (elim x as (λ y. Chain) [
          | Next.Record n d ↦
              add (record { at = at; it = rec_of s n d }) (chain k (is_unfinished (status_of s)) (at + size_of n d) (drop (size_of n d) s))
          | Next.Wrap ↦ stop pending at Next.Wrap
          | Next.TornWrap ↦ stop pending at Next.TornWrap
          | Next.Clear ↦ stop pending at Next.Clear
          | Next.Over ↦ stop pending at Next.Over
          | Next.Bad ↦ stop pending at Next.Bad
        ]).entries
    go (Next.Record n d) f ih =
        let inside : at + length s ≤ N = h (omega arith) in (
          omega (arith, rec_size s at n d),
          ih n d (λ z. omega (arith, length-drop (size_of n d) s)),
        )
    go Next.Wrap f ih = tt
    go Next.TornWrap f ih = tt
    go Next.Clear f ih = tt
    go Next.Over f ih = tt
    go Next.Bad f ih = tt

-- ---- the reading

-- an image of N bytes, and what is read of it
pub record Seen (N : ℕ) (im : Image) (r : Reading) : Type 0 where
  pub same : length im ≡ N
  pub length_read : r.place.length ≡ N
  pub within : Each (Within N) r.entries

module _ (im : Image) (h : ℕ) where
  high_within : Each (Within (length im)) (from_head im h).entries
  high_within = chain_within (suc (length im)) false h (drop h im) (length im) (λ z. omega (arith, length-drop h im))

  low_within : (pending : Bool) → Each (Within (length im)) (from_zero im h pending).entries
  low_within pending =
      chain_within (suc (length im)) pending 0 (take (floor h) im) (length im) (λ z. omega (arith, length-take (floor h) im))

  -- before the turn and behind it
  joined_seen : (c d : Chain) → Each (Within (length im)) c.entries → Each (Within (length im)) d.entries
      → Seen (length im) im (joined (length im) h c d)
  unfolding joined
  joined_seen c d p q = go c.last
    where
      alone : Seen (length im) im (read_straight (length im) h c)
      alone = record { same = refl; length_read = refl; within = p }

      both : Seen (length im) im (read_turned (length im) h c d)
      both = record { same = refl; length_read = refl; within = each_append (Within (length im)) c.entries d.entries p q }

      go : (x : Next) → Seen (length im) im (elim x as (λ y. Reading) [
        | Next.Record n l ↦ read_straight (length im) h c
        | Next.Wrap ↦ read_turned (length im) h c d
        | Next.TornWrap ↦ turn_torn (length im) h c
        | Next.Clear ↦ read_straight (length im) h c
        | Next.Over ↦ read_turned (length im) h c d
        | Next.Bad ↦ read_straight (length im) h c
      ])
      go (Next.Record n l) = alone
      go Next.Wrap = both
      go Next.TornWrap = record { same = refl; length_read = refl; within = p }
      go Next.Clear = alone
      go Next.Over = both
      go Next.Bad = alone

  pub seen_from : Seen (length im) im (reading_from im h)
  unfolding read_on
  seen_from = go (eqb (floor h) 0)
    where
      go : (b : Bool) → Seen (length im) im (elim b as (λ x. Reading) [
        | true ↦ read_straight (length im) h (from_head im h)
        | false ↦ joined (length im) h (from_head im h) (from_zero im h (from_head im h).pending)
      ])
      go true = record { same = refl; length_read = refl; within = high_within }
      go false = joined_seen (from_head im h) (from_zero im h (from_head im h).pending) high_within (low_within (from_head im h).pending)

-- so of every image that mount does not refuse
reading_seen : (im : Image) (r : Reading) → reading im ≡ give r → Seen (length im) im r
unfolding reading judged
reading_seen im r e =
    let g = gave (head im) (read_at im) r e in
    let h = g.value in
    subst (Seen (length im) im) (passed (legal im (reading_from im h)) (numbered 5) (reading_from im h) r g.on).1 (seen_from im h)

-- and of every settled one
pub settled_seen : (im : Image) (r : Reading) → settled_reading im ≡ give r → Seen (length im) im r
settled_seen im r e = reading_seen im r (settled_gives im r e).0

-- ---- steps keep the length

-- each erase lies inside
abbrev pub Inner : ℕ → List Step → Type 0
Inner N [] = Unit {0}
Inner N (program a b ∷ ss) = Inner N ss
Inner N (erase a ∷ ss) = (a + 4096 ≤ N) × Inner N ss

pub programs_inner : (N : ℕ) (ss : List Step) → Programs ss → Inner N ss
programs_inner N [] p = tt
programs_inner N (program a b ∷ ss) p = programs_inner N ss p
programs_inner N (erase a ∷ ss) p = absurd p

pub inner_append : (N : ℕ) (ss ts : List Step) → Inner N ss → Inner N ts → Inner N (ss ++ ts)
inner_append N [] ts p q = q
inner_append N (program a b ∷ ss) ts p q = inner_append N ss ts p q
inner_append N (erase a ∷ ss) ts p q = (p.0, inner_append N ss ts p.1 q)

pub inner_length : (N : ℕ) (im : Image) (ss : List Step) → length im ≡ N → Inner N ss → length (run im ss) ≡ N
inner_length N im [] e p = e
inner_length N im (program a b ∷ ss) e p = inner_length N (set im a b) ss (length-set im a b ∙ e) p
inner_length N im (erase a ∷ ss) e p =
    inner_length N (apply im (erase a)) ss (erases_length 1 a 1 im (omega (arith, p.0)) ∙ e) p.1
