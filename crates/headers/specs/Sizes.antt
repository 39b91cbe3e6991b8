-- What the walk gathers: the lengths of the first FC record and of the first F8 record of a name; and the answer as a fold over the chain.
use Rattle.std.specs.Prelude.{ℕ, Bool, true, false, List, [], ◌∷◌, length, Err, None, Ok, Some}
use Rattle.spec.specs.Basics.{Answer, refuse, give, numbered, checked, all}
use Rattle.spec.specs.Refusals.{refusal_numbers}
use Rattle.spec.specs.Record.{Entry, content_of}
use Rattle.spec.specs.Length.{stands, of_name}
use Rattle.chain.specs.declared.Item.{Item}
use Rattle.chain.specs.Rest.{Run}
use Rattle.headers.specs.declared.Sizes.{Sizes}
use Rattle.headers.specs.Answers.{Size, Measured}

-- what the code's answer says
abbrev pub answered : Measured → Answer ℕ
answered (Ok d) = give d
answered (Err x) = refuse (refusal_numbers x)

abbrev pub no_sizes : Sizes
no_sizes = record { committed = None; migrating = None }

-- what was found before, or this length if it fits
abbrev pub first_of : Size → Bool → ℕ → Size
first_of (Some k) fits d = Some k
first_of None true d = Some d
first_of None false d = None

abbrev pub noted : List ℕ → Sizes → Entry → Sizes
noted name x e =
    record {
      committed = first_of x.committed (of_name 0xFC name e) (length (content_of e));
      migrating = first_of x.migrating (of_name 0xF8 name e) (length (content_of e));
    }

abbrev pub best_of : Size → Size → Answer ℕ
best_of (Some d) y = give d
best_of None (Some d) = give d
best_of None None = refuse (numbered 2)

abbrev pub best : Sizes → Answer ℕ
best x = best_of x.committed x.migrating

-- the walk stops there
abbrev pub stopped : Item → Sizes → Answer ℕ
stopped (Item.Record e next) x = refuse (numbered 5)
stopped (Item.End t w) x = best x
stopped (Item.TornWrap t) x = refuse (numbered 5)
stopped (Item.Broken t w) x = refuse (numbered 5)

-- with the records es more
abbrev pub noted_all : List ℕ → Sizes → List Entry → Sizes
noted_all name x [] = x
noted_all name x (e ∷ es) = noted_all name (noted name x e) es

-- the answer of what is read from a place on, behind the head
unfoldable pub told : List ℕ → Sizes → Run → Answer ℕ
told name x r = checked (all (stands false) r.entries) (numbered 5) (stopped r.ending (noted_all name x r.entries))
