-- The rows tell a map, and what the statements do to them they do to the map.
use Rattle.std.proofs.Common.{◌≡◌, ◌⊎◌, inl, inr, ℕ, List, [], ◌∷◌, Bool, true, false, cond, Some, None, Option, refl, sym, ap, subst, ◌∙◌, true≢false}
use Rattle.std.specs.List.{list_all}
use Rattle.std.specs.Str.{bytes_eq}
use Rattle.std.proofs.lemmas.Bool.{and_parts, cases_Bool}
use Rattle.sqlite_value.specs.declared.value.Value.{Value}
use Rattle.sqlite_value.specs.declared.value.Value.TheVariants.{Int, Blob}
use Rattle.sqlite_value.specs.Order.{Row, bytes, column}
use Rattle.sqlite_rules.specs.Lists.{Has}
use Rattle.sqlite_rows.specs.Cuts.{Cuts}
use Rattle.sqlite_rows.specs.Gets.{Gets, LacksKey, key_is, shown}
use Rattle.sqlite_rows.specs.Puts.{columns_with}
use Rattle.sqlite_rows.specs.Replaces.{Replaces}
use Rattle.sqlite_rows.specs.Uniques.{HaveOwnKeys}
use Rattle.sqlite_rows.proofs.KeyLemmas.{bytes_eq-refl, bytes_eq-same}
use Rattle.sqlite_rows.proofs.PutLemmas.{key_value}
use Rattle.asp_messages.specs.Ranges.{KeyFits}
use Rattle.keeper.specs.Items.{Sets, TellsItem, TellsSets}
use Rattle.session_machine.specs.declared.item.Item.{Item}
use Rattle.session_machine.specs.Liveness.{ItemFits}
use Rattle.sqlite_keeper.specs.Rows.{SaysItem, ReadsItem}
use Rattle.sqlite_keeper.specs.Told.{IsChecked, IsRowOf, fields_of, item_in, item_with, says_item, fields_in, told_rows}
use Rattle.sqlite_keeper.proofs.SaysLemmas.{item_is, of_says, says_is}

-- ---- lists

pub each_says : (rows : List Row) → list_all says_item rows ≡ true → (row : Row) → Has rows row
    → says_item row ≡ true
each_says [] all row h = absurd h
each_says (r ∷ rows) all row (inl same) = rw same (and_parts _ _ all).0
each_says (r ∷ rows) all row (inr h) = each_says rows (and_parts _ _ all).1 row h

all_say : (rows : List Row) → ((row : Row) → Has rows row → says_item row ≡ true)
    → list_all says_item rows ≡ true
all_say [] each = refl
all_say (r ∷ rows) each = rw (each r (inl refl), all_say rows (λ row h. each row (inr h))) refl

-- a row has the key, or none has
find_key : (rows : List Row) (key : List ℕ)
    → ((row : Row) × Has rows row × (key_is key (column row 1) ≡ true)) ⊎ LacksKey rows key
find_key [] key = inr (λ row h. absurd h)
find_key (r ∷ rows) key = elim (cases_Bool (key_is key (column r 1))) [
  | inl hit ↦ inl (r, inl refl, hit)
  | inr miss ↦ elim (find_key rows key) [
    | inl f ↦ inl (f.0, inr f.1, f.2)
    | inr none ↦ inr (λ row h. elim h [ inl same ↦ rw same miss | inr later ↦ none row later ])
  ]
]

item_at : (rows : List Row) (key : List ℕ) (row : Row) → Has rows row
    → key_is key (column row 1) ≡ true
    → ((r : Row) → Has rows r → key_is key (column r 1) ≡ true → r ≡ row)
    → item_in rows key ≡ Some (item_with (fields_in row))
item_at [] key row h hit only = absurd h
item_at (r ∷ rows) key row h hit only = elim (cases_Bool (key_is key (column r 1))) [
  | inl here ↦ rw here (ap (λ (x : Row). Some (item_with (fields_in x))) (only r (inl refl) here))
  | inr miss ↦ elim h [
    | inl same ↦ absurd (true≢false
        (sym hit ∙ subst (λ (x : Row). key_is key (column x 1) ≡ false) (sym same) miss))
    | inr later ↦ rw miss (item_at rows key row later hit (λ x k. only x (inr k)))
  ]
]

no_item : (rows : List Row) (key : List ℕ) → LacksKey rows key → item_in rows key ≡ None
no_item [] key none = refl
no_item (r ∷ rows) key none = rw (none r (inl refl)) (no_item rows key (λ row h. none row (inr h)))

-- the item of a row that has the key
pub the_item : (rows : List Row) (key : List ℕ) (row : Row) → HaveOwnKeys rows → Has rows row
    → key_is key (column row 1) ≡ true → item_in rows key ≡ Some (item_with (fields_in row))
the_item rows key row own h hit = item_at rows key row h hit (λ r k too. own key r row k h too hit)

-- an item of the map has a row
pub item_row_of : (rows : List Row) (key : List ℕ) (item : Item)
    → ((row : Row) → Has rows row → says_item row ≡ true) → item_in rows key ≡ Some item
    → (row : Row) × Has rows row × IsRowOf row key item
item_row_of [] key item each e = absurd (let f = e in cc)
item_row_of (r ∷ rows) key item each e = elim (cases_Bool (key_is key (column r 1))) [
  | inl hit ↦
      let here : item_with (fields_in r) ≡ item = (let f = rw hit at e in cc) in
      let name : bytes (column r 1) ≡ key = ap bytes (key_value key (column r 1) hit) in (
        r,
        inl refl,
        subst (λ k. IsRowOf r k item) name
            (subst (λ x. IsRowOf r (bytes (column r 1)) x) here (says_is r (each r (inl refl)))),
      )
  | inr miss ↦
      let more = item_row_of rows key item (λ row h. each row (inr h)) (rw miss at e) in
      (more.0, inr more.1, more.2)
]

-- ---- a selection by key

-- the row that is shown is that of the item
row_of : (row : Row) (key : List ℕ) (item : Item) → KeyFits key
    → key_is key (column row 1) ≡ true
    → SaysItem (shown row) item → IsRowOf row key item
row_of row key item fits hit s = record {
  key_fits = fits;
  fits = s.begins.fits;
  key_is = key_value key (column row 1) hit;
  body = s.begins.body;
  minutes = s.begins.minutes;
  fresh = s.begins.fresh;
  cookie = s.begins.cookie;
  since = s.begins.since;
  touched = s.begins.touched;
  ends = s.ends;
  expires = s.expiry;
}

-- what is read of the key is its item
got : (rows : List Row) (key : List ℕ) (row : Option Row) (item : Option Item) → KeyFits key
    → HaveOwnKeys rows → Gets rows key row → ReadsItem row item → item ≡ item_in rows key
got rows key None None fits own g s = sym (no_item rows key g)
got rows key None (Some item) fits own g s = absurd s
got rows key (Some out) None fits own g s = absurd s
got rows key (Some out) (Some item) fits own g s =
    let r = row_of g.0 key item fits g.2 (subst (λ o. SaysItem o item) g.3 s) in
    sym (the_item rows key g.0 own g.1 g.2 ∙ ap Some (item_is g.0 key item r))

-- the row of the key, where it has one, was read, and says an item
pub checked : (rows : List Row) (key : List ℕ) (row : Option Row) (item : Option Item) → KeyFits key
    → HaveOwnKeys rows → Gets rows key row → ReadsItem row item → IsChecked rows key
checked rows key None None fits own g s = λ r h hit. absurd (true≢false (sym hit ∙ g r h))
checked rows key None (Some item) fits own g s = absurd s
checked rows key (Some out) None fits own g s = absurd s
checked rows key (Some out) (Some item) fits own g s = λ r h hit.
    let is = row_of g.0 key item fits g.2 (subst (λ o. SaysItem o item) g.3 s) in
    subst (λ x. says_item x ≡ true) (own key g.0 r g.1 h g.2 hit) (of_says g.0 key item is)

pub got_told : (rows : List Row) (key : List ℕ) (row : Option Row) (item : Option Item)
    → KeyFits key → HaveOwnKeys rows → Gets rows key row → ReadsItem row item
    → TellsItem (told_rows rows) key item
got_told rows key row item fits own g s = by_all (list_all says_item rows)
  where
    by_all : (b : Bool) → TellsItem (cond b (Some (item_in rows)) None) key item
    by_all true = got rows key row item fits own g s
    by_all false = tt

-- ---- a write

module _ (old new : List Row) (key : List ℕ) (own : HaveOwnKeys old) (checks : IsChecked old key)
    (kept : (row : Row) → Has old row → key_is key (column row 1) ≡ false → Has new row) where
  -- where the rows tell afterwards they told before
  told_before : list_all says_item new ≡ true → list_all says_item old ≡ true
  told_before all = all_say old (λ row h. elim (cases_Bool (key_is key (column row 1))) [
    | inl hit ↦ checks row h hit
    | inr miss ↦ each_says new all row (kept row h miss)
  ])

  tells_sets : (item : Option Item)
      → (list_all says_item new ≡ true → Sets (item_in old) (item_in new) key item)
      → TellsSets (told_rows old) (told_rows new) key item
  tells_sets item sets = by_both (list_all says_item old) (list_all says_item new) told_before sets
    where
      by_both : (a b : Bool) → (b ≡ true → a ≡ true)
          → (b ≡ true → Sets (item_in old) (item_in new) key item)
          → TellsSets (cond a (Some (item_in old)) None) (cond b (Some (item_in new)) None) key item
      by_both true true before sets = sets refl
      by_both true false before sets = tt
      by_both false true before sets = absurd (true≢false (sym (before refl)))
      by_both false false before sets = tt

key_apart : (key other : List ℕ) (row : Row) → bytes_eq other key ≡ false
    → key_is other (column row 1) ≡ true → key_is key (column row 1) ≡ false
key_apart key other row apart hit = elim (cases_Bool (key_is key (column row 1))) [
  | inl too ↦
      let same : ◌≡◌ {A = Value} (Blob other) (Blob key) = sym (key_value other (column row 1) hit)
      ∙ key_value key (column row 1) too in
      let one : other ≡ key = cc in
      absurd (true≢false (sym (subst (λ k. bytes_eq other k ≡ true) one (bytes_eq-refl other))
      ∙ apart))
  | inr miss ↦ miss
]

module _ (old new : List Row) (key : List ℕ) (item : Item) (fits : KeyFits key)
    (in_range : ItemFits item) (own : HaveOwnKeys old)
    (r : Replaces old new key (fields_of item)) where
  abbrev fresh : Row
  fresh = Int r.id ∷ columns_with key (fields_of item)

  fresh_says : IsRowOf fresh key item
  fresh_says = record {
    key_fits = fits;
    fits = in_range;
    key_is = refl;
    body = refl;
    minutes = refl;
    fresh = refl;
    cookie = refl;
    since = refl;
    touched = refl;
    ends = refl;
    expires = refl;
  }

  -- the key of the new row is no other
  fresh_key : (other : List ℕ) (row : Row) → row ≡ fresh → key_is other (column row 1) ≡ true
      → other ≡ key
  fresh_key other row is hit = sym
      (bytes_eq-same key other (subst (λ (x : Row). key_is other (column x 1) ≡ true) is hit))

  pub own_after : HaveOwnKeys new
  own_after other a b ha hb hit too = elim (r.either a ha) [
    | inl here ↦ elim (r.either b hb) [
      | inl both ↦ here ∙ sym both
      | inr was ↦ absurd (true≢false
          (sym too ∙ subst (λ k. key_is k (column b 1) ≡ false) (sym (fresh_key other a here hit))
          was.1))
    ]
    | inr was ↦ elim (r.either b hb) [
      | inl here ↦ absurd (true≢false
          (sym hit ∙ subst (λ k. key_is k (column a 1) ≡ false) (sym (fresh_key other b here too))
          was.1))
      | inr both ↦ own other a b was.0 both.0 hit too
    ]
  ]

  others : (other : List ℕ) → bytes_eq other key ≡ false → item_in new other ≡ item_in old other
  others other apart = elim (find_key old other) [
    | inl f ↦ the_item new other f.0 own_after (r.kept f.0 f.1 (key_apart key other f.0 apart f.2))
        f.2 ∙ sym (the_item old other f.0 own f.1 f.2)
    | inr none ↦ no_item new other (λ row h. elim (r.either row h) [
      | inl here ↦ elim (cases_Bool (key_is other (column row 1))) [
        | inl hit ↦ absurd (true≢false
            (sym (subst (λ k. bytes_eq k key ≡ true) (sym (fresh_key other row here hit))
            (bytes_eq-refl key)) ∙ apart))
        | inr miss ↦ miss
      ]
      | inr was ↦ none row was.0
    ]) ∙ sym (no_item old other none)
  ]

  pub put_told : IsChecked old key → TellsSets (told_rows old) (told_rows new) key (Some item)
  put_told checks = tells_sets old new key own checks r.kept (Some item) (λ all. record {
    same = the_item new key fresh own_after r.there (bytes_eq-refl key)
        ∙ ap Some (item_is fresh key item fresh_says);
    others = others;
  })

pub cut_told : (old new : List Row) (key : List ℕ) → HaveOwnKeys old → Cuts old new key
    → IsChecked old key → TellsSets (told_rows old) (told_rows new) key None
cut_told old new key own c checks = tells_sets old new key own checks c.kept None (λ all. record {
  same = no_item new key (λ row h. (c.left row h).1);
  others = λ other apart. elim (find_key old other) [
    | inl f ↦ the_item new other f.0 own_after (c.kept f.0 f.1 (key_apart key other f.0 apart f.2))
        f.2 ∙ sym (the_item old other f.0 own f.1 f.2)
    | inr none ↦ no_item new other (λ row h. none row (c.left row h).0)
        ∙ sym (no_item old other none)
  ];
})
  where
    own_after : HaveOwnKeys new
    own_after other a b ha hb hit too = own other a b (c.left a ha).0 (c.left b hb).0 hit too
