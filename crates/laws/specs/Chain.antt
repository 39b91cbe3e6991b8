-- The chain, one step at a time.
use Rattle.std.specs.Prelude.{ℕ, suc, ◌+◌, ◌≡◌, Bool, List, drop}
use Rattle.spec.specs.declared.Next.{Next}
use Rattle.spec.specs.Bytes.{is_unfinished}
use Rattle.spec.specs.Record.{size_of, rec_of, status_of}
use Rattle.spec.specs.Next.{next}
use Rattle.spec.specs.Chain.{add, stop, allowed, chain}
use Rattle.laws.specs.Next.{NotRecord}

module _ (k : ℕ) (pending : Bool) (at : ℕ) (s : List ℕ) where
  -- over a record
  pub chain_record : (n d : ℕ) → allowed pending (next s) ≡ Next.Record n d
      → chain (suc k) pending at s ≡ add (record { at = at; it = rec_of s n d })
      (chain k (is_unfinished (status_of s)) (at + size_of n d) (drop (size_of n d) s))
  unfolding chain
  chain_record n d e = rw (e, chain)

  -- no record: it stops
  pub chain_stop : (x : Next) → NotRecord x → allowed pending (next s) ≡ x → chain (suc k) pending at s ≡ stop pending at x
  unfolding chain
  chain_stop (Next.Record n d) z e = absurd z
  chain_stop Next.Wrap z e = rw (e, chain)
  chain_stop Next.TornWrap z e = rw (e, chain)
  chain_stop Next.Clear z e = rw (e, chain)
  chain_stop Next.Over z e = rw (e, chain)
  chain_stop Next.Bad z e = rw (e, chain)
