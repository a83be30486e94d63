-- The items that the rows of `items2` tell.
use Rattle.std.specs.Prelude.{◌≡◌, ◌==◌, ℕ, ◌^◌, ℤ, pos, negsuc, nat_lt, nat_le, length, List, [], ◌∷◌, Bool, true, false, ◌&&◌, if◌then◌else◌, Option, Some, None}
use Rattle.std.specs.List.{list_all}
use Rattle.std.specs.Str.{bytes_eq}
use Rattle.sqlite_value.specs.declared.value.Value.{Value}
use Rattle.sqlite_value.specs.declared.value.Value.TheVariants.{Null, Int, Real, Text, Blob}
use Rattle.sqlite_value.specs.Order.{Row, bytes, column}
use Rattle.sqlite_trees.specs.View.{is_int}
use Rattle.sqlite_rules.specs.Edit.{id_in}
use Rattle.sqlite_rules.specs.Lists.{Has}
use Rattle.sqlite_rows.specs.Gets.{key_is}
use Rattle.sqlite_rows.specs.Puts.{Fields}
use Rattle.asp_messages.specs.Ranges.{KeyFits}
use Rattle.session_machine.specs.declared.item.Hold.{Hold}
use Rattle.session_machine.specs.declared.item.Item.{Item}
use Rattle.session_machine.specs.Liveness.{ItemFits, expiry}
use Rattle.sqlite_keeper.specs.Rows.{cookie_of, flag_number, since_of}

-- what a row holds of the item
abbrev pub fields_of : Item → Fields
fields_of item = record {
  body = item.body;
  minutes = pos item.minutes;
  fresh = pos (flag_number item.fresh);
  cookie = pos (cookie_of item.holder);
  since = pos (since_of item.holder);
  touched = pos item.touched;
  ends = pos item.ends;
  expiry = pos (expiry item);
}

-- The row is that of the key and the item: both are in range, and the columns are theirs.
pub record IsRowOf (row : Row) (key : List ℕ) (item : Item) : Type 0 where
  pub key_fits : KeyFits key
  pub fits : ItemFits item
  pub key_is : column row 1 ≡ Blob key
  pub body : column row 2 ≡ Blob item.body
  pub minutes : column row 3 ≡ Int (pos item.minutes)
  pub fresh : column row 4 ≡ Int (pos (flag_number item.fresh))
  pub cookie : column row 5 ≡ Int (pos (cookie_of item.holder))
  pub since : column row 6 ≡ Int (pos (since_of item.holder))
  pub touched : column row 7 ≡ Int (pos item.touched)
  pub ends : column row 8 ≡ Int (pos item.ends)
  pub expires : column row 9 ≡ Int (pos (expiry item))

-- a number, 0 where it is below that
abbrev pub nat_in : ℤ → ℕ
nat_in (pos n) = n
nat_in (negsuc n) = 0

-- the lock of these two numbers, none where the cookie is 0
abbrev pub lock_in : ℕ → ℕ → Option Hold
lock_in cookie since =
    if cookie == 0 then None else Some (record { cookie = cookie; since = since })

-- the item that has these numbers, where one has
abbrev pub item_with : Fields → Item
item_with it = record {
  body = it.body;
  minutes = nat_in it.minutes;
  fresh = nat_in it.fresh == 1;
  holder = lock_in (nat_in it.cookie) (nat_in it.since);
  touched = nat_in it.touched;
  ends = nat_in it.ends;
}

abbrev pub is_same_int : ℤ → ℤ → Bool
is_same_int (pos m) (pos n) = m == n
is_same_int (pos m) (negsuc n) = false
is_same_int (negsuc m) (pos n) = false
is_same_int (negsuc m) (negsuc n) = m == n

abbrev pub are_same_fields : Fields → Fields → Bool
are_same_fields a b =
    bytes_eq a.body b.body && (is_same_int a.minutes b.minutes && (is_same_int a.fresh b.fresh
    && (is_same_int a.cookie b.cookie && (is_same_int a.since b.since
    && (is_same_int a.touched b.touched && (is_same_int a.ends b.ends
    && is_same_int a.expiry b.expiry))))))

abbrev pub is_blob : Value → Bool
is_blob Null = false
is_blob (Int n) = false
is_blob (Real x) = false
is_blob (Text t) = false
is_blob (Blob b) = true

-- the columns have their types
abbrev pub is_formed : Row → Bool
is_formed row =
    is_blob (column row 1) && (is_blob (column row 2) && (is_int (column row 3)
    && (is_int (column row 4) && (is_int (column row 5) && (is_int (column row 6)
    && (is_int (column row 7) && (is_int (column row 8) && is_int (column row 9))))))))

-- what a row whose columns have their types holds
abbrev pub fields_in : Row → Fields
fields_in row = record {
  body = bytes (column row 2);
  minutes = id_in (column row 3);
  fresh = id_in (column row 4);
  cookie = id_in (column row 5);
  since = id_in (column row 6);
  touched = id_in (column row 7);
  ends = id_in (column row 8);
  expiry = id_in (column row 9);
}

abbrev pub lock_fits : Option Hold → Bool
lock_fits None = true
lock_fits (Some hold) =
    nat_lt 0 hold.cookie && (nat_lt hold.cookie (2 ^ 63) && nat_le hold.since (2 ^ 62))

abbrev pub all_fit : List ℕ → Item → Bool
all_fit key item =
    (nat_lt 0 (length key) && nat_le (length key) 1024)
    && ((nat_le (length item.body) 4194304 && (nat_lt 0 item.minutes
    && (nat_le item.minutes 525600 && (nat_le item.touched (2 ^ 62)
    && nat_lt item.ends (2 ^ 63))))) && lock_fits item.holder)

-- whether the row is that of a key and an item
abbrev pub says_item : Row → Bool
says_item row =
    is_formed row && (are_same_fields (fields_in row) (fields_of (item_with (fields_in row)))
    && all_fit (bytes (column row 1)) (item_with (fields_in row)))

-- the item of the key, where a row has it
abbrev pub item_in : List Row → List ℕ → Option Item
item_in [] key = None
item_in (row ∷ rows) key =
    if key_is key (column row 1) then Some (item_with (fields_in row)) else item_in rows key

-- the rows tell their items where each is that of a key and an item
abbrev pub told_rows : List Row → Option (List ℕ → Option Item)
told_rows rows = if list_all says_item rows then Some (item_in rows) else None

-- the row of the key, where it has one, is that of an item
abbrev pub IsChecked : List Row → List ℕ → Type 0
IsChecked rows key =
    (row : Row) → Has rows row → key_is key (column row 1) ≡ true → says_item row ≡ true
