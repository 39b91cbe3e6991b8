-- A record that was read lies within the l bytes it was read from; and how long a name may be.
use Rattle.std.specs.Prelude.{ℕ, ◌≤◌, ◌<◌, ◌^◌, ◌≡◌, false, List, length, drop}
use Rattle.std.proofs.Common.{inl, inr, ap, ◌∙◌}
use Rattle.std.proofs.lemmas.Bool.{cases_lt}
use Rattle.spec.specs.declared.Next.{Next}
use Rattle.spec.specs.Record.{size_of, name_length, data_len_of}
use Rattle.spec.specs.Next.{sized, record_at}
use Rattle.laws.specs.Next.{sized_open}
use Rattle.laws.specs.Parts.{long_le, long_lt}

-- a length that a name can have
abbrev pub NameLength : ℕ → Type 0
NameLength n = n ≤ 63

abbrev pub Within : Next → ℕ → Type 0
Within (Next.Record n d) l = (n < 64) × (size_of n d ≤ l) × (d < 2 ^ 32)
Within Next.Wrap l = Unit {0}
Within Next.TornWrap l = Unit {0}
Within Next.Clear l = Unit {0}
Within Next.Over l = Unit {0}
Within Next.Bad l = Unit {0}

-- r is what the rule `what` reads at the front of s
abbrev pub AtFront : (List ℕ → Next) → List ℕ → Next → Type 0
AtFront what s r = (r ≡ what s) × Within r (length s)

-- a record, if one is found; nothing is said of anything else
abbrev pub RecordIf : List ℕ → Next → Type 0
RecordIf s (Next.Record n d) = AtFront (record_at false) s (Next.Record n d)
RecordIf s Next.Wrap = Unit {0}
RecordIf s Next.TornWrap = Unit {0}
RecordIf s Next.Clear = Unit {0}
RecordIf s Next.Over = Unit {0}
RecordIf s Next.Bad = Unit {0}

-- a name whose length is known where it is below 64
pub record_if : (s : List ℕ) (n : ℕ) (r : Next) → AtFront (λ t. sized t n (data_len_of t)) s r
    → (n < 64 → n ≡ name_length 64 false (drop 8 s)) → RecordIf s r
record_if s n (Next.Record m d) h q = elim (cases_lt n 64) [
  | inl l ↦ (h.0 ∙ ap (λ (k : ℕ). sized s k (data_len_of s)) (q l), h.1)
  | inr l ↦ (let e = sized_open s n (data_len_of s) l in cc, h.1)
]
record_if s n Next.Wrap h q = tt
record_if s n Next.TornWrap h q = tt
record_if s n Next.Clear h q = tt
record_if s n Next.Over h q = tt
record_if s n Next.Bad h q = tt

-- whether a part has so many bytes
pub ruleset lengths = (long_le, long_lt)
