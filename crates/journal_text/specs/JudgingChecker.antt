-- A checker, as its callers see it.
use Rattle.std.specs.Prelude.{◌≡◌, ℕ, ◌-◌, List, length, take, Option}
use Rattle.std.specs.BTreeMap.{is_at}
use Rattle.std.specs.Cmp.Lexicographic.{slice_cmp}
use Rattle.std.specs.Map.{lookup}
use Rattle.std.specs.Ordering.{nat_cmp}
use Rattle.session_machine.specs.declared.entry.Entry.{Entry}
use Rattle.session_machine.specs.declared.item.Item.{Item}
use Rattle.session_machine.specs.declared.item.Profile.{Profile}
use Rattle.journal_text.specs.declared.judging.judgement.Judgement.{Judgement}
use Rattle.journal_text.specs.declared.judging.judgement.Judgement.TheVariants.{Legal, Illegal}
use Rattle.journal_text.specs.JudgingEntries.{Judges, count_before, draw_before, item_before}

-- What is known behind a legal history: its profile, the count of faults, the greatest cookie
-- drawn, and the items that there are.
pub record Known : Type 0 where
  pub profile : Profile
  pub faults : ℕ
  pub draw : ℕ
  pub items : List (List ℕ × Item)

-- The place of the first entry, how many entries were taken, the judgement of these, and what is
-- known behind those before the first that may not stand.
pub record Checked : Type 0 where
  pub first_place : ℕ
  pub taken : ℕ
  pub verdict : Judgement
  pub known : Known

-- the item of a key, where a pair has it
abbrev pub item_among : List (List ℕ × Item) → List ℕ → Option Item
item_among pairs key = lookup (is_at (slice_cmp nat_cmp key)) pairs

-- what is known is what stands behind the list
pub record KnowsHistory (known : Known) (list : List Entry) : Type 0 where
  pub faults : known.faults ≡ count_before list
  pub draw : known.draw ≡ draw_before list
  pub items : (key : List ℕ) → item_among known.items key ≡ item_before known.profile list key

-- the entries before the first that may not stand, of a list whose first entry has this place
abbrev pub legal_front : ℕ → Judgement → List Entry → List Entry
legal_front first_place (Legal entries) list = list
legal_front first_place (Illegal place why) list = take (place - first_place) list

-- The checker has taken the entries of the list, and no others, and knows what stands behind those
-- before the first that may not stand.
pub record HasTaken (c : Checked) (list : List Entry) : Type 0 where
  pub taken : c.taken ≡ length list
  pub judges : Judges c.known.profile c.first_place list c.verdict
  pub knows : KnowsHistory c.known (legal_front c.first_place c.verdict list)
