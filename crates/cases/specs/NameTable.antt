-- Document 02, K5: names with what the check says of them, worked out by hand and proved by computing.
use Rattle.std.specs.Prelude.{ℕ, ◌≡◌, List, [], ◌∷◌, ◌++◌, replicate, refl}
use Rattle.spec.specs.Refusals.{FaultNumbers}
use Rattle.spec.specs.Basics.{Each}
use Rattle.spec.specs.Bytes as Bytes
use Rattle.spec.specs.Record as Record
use Rattle.spec.specs.Record.{name_fault}
use Rattle.cases.specs.Proof.{◌⨾◌}

pub record Named : Type 0 where
  pub name : List ℕ
  pub says : FaultNumbers

abbrev named : List ℕ → ℕ → ℕ → Named
named name reason place = record { name = name; says = record { reason = reason; place = place } }

-- a letter, a space, a slash
abbrev a : ℕ
a = 0x61

abbrev sp : ℕ
sp = 0x20

abbrev sl : ℕ
sl = 0x2F

pub names : List Named
names =
    -- 0: nothing is wrong. "night basal" has its space inside
    named (a ∷ []) 0 0
    ∷ named (0x6E ∷ 0x69 ∷ 0x67 ∷ 0x68 ∷ 0x74 ∷ sp ∷ 0x62 ∷ 0x61 ∷ 0x73 ∷ 0x61 ∷ 0x6C ∷ []) 0 0
    ∷ named (a ∷ sp ∷ sp ∷ a ∷ []) 0 0
    ∷ named (sl ∷ a ∷ []) 0 0
    ∷ named (0x21 ∷ 0x7E ∷ []) 0 0
    ∷ named (replicate 63 a) 0 0
    -- 1: "empty"; 2: "too long", whatever the bytes are
    ∷ named [] 1 0
    ∷ named (replicate 64 a) 2 0
    ∷ named (replicate 64 sp) 2 0
    -- 3: "bad byte with the first one's place (from 0 ..)"; a space "as first or last byte"
    ∷ named (sp ∷ a ∷ []) 3 0
    ∷ named (a ∷ sp ∷ []) 3 1
    ∷ named (sp ∷ []) 3 0
    ∷ named (a ∷ a ∷ 0x1F ∷ 0x7F ∷ a ∷ []) 3 2
    ∷ named (a ∷ 0x7F ∷ []) 3 1
    ∷ named (a ∷ 0x00 ∷ []) 3 1
    ∷ named (a ∷ 0x80 ∷ sl ∷ []) 3 1
    ∷ named (replicate 62 a ++ (sp ∷ [])) 3 62
    -- 4: "final slash"
    ∷ named (a ∷ sl ∷ []) 4 0
    ∷ named (sl ∷ []) 4 0
    ∷ named (a ∷ sp ∷ sl ∷ []) 4 0
    ∷ []

pub names_hold : Each (λ n. name_fault n.name ≡ n.says) names
unfolding names Bytes.is_printable Bytes.is_space Bytes.is_slash Record.may_stand Record.first_bad Record.ends_in_slash Record.name_fault
names_hold =
    refl ⨾ refl ⨾ refl ⨾ refl ⨾ refl ⨾ refl ⨾ refl ⨾ refl ⨾ refl ⨾ refl
    ⨾ refl ⨾ refl ⨾ refl ⨾ refl ⨾ refl ⨾ refl ⨾ refl ⨾ refl ⨾ refl ⨾ refl ⨾ tt
