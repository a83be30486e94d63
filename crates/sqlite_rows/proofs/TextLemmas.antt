-- What the texts of the statements mean, found by computation.
use Rattle.std.proofs.Common.{◌≡◌, ℕ, pos, negsuc, List, [], ◌∷◌, codes, false, Some, None, refl}
use Rattle.sqlite.specs.Command.{Command}
use Rattle.sqlite.specs.Command.TheVariants.{Delete, InsertOr, Nothing, Select, Update}
use Rattle.sqlite.specs.Listing.{understood, reads_listing}
use Rattle.sqlite.specs.Query.{Query}
use Rattle.sqlite.specs.Term.{Term, lit, col, op2}
use Rattle.sqlite_sql.specs.Term.{op1}
use Rattle.sqlite_sql.specs.declared.ops.UnaryOp.TheVariants.{ToNumeric}
use Rattle.sqlite.specs.declared.types.Value.TheVariants.{Null, Int}
use Rattle.sqlite.proofs.Callers.{IsPlain, command_of}
use Rattle.sqlite_schema.specs.declared.command.Conflict.TheVariants.{Abort}
use Rattle.sqlite_schema.specs.declared.command.Source.TheVariants.{Values}
use Rattle.sqlite_schema.specs.declared.command.Upsert.{Upsert}
use Rattle.sqlite_schema.specs.declared.program.Program.{Program}
use Rattle.sqlite_sql.specs.declared.ops.BinaryOp.TheVariants.{Compare}
use Rattle.sqlite_sql.specs.declared.ops.CompareOp.TheVariants.{Eq, Le}
use Rattle.sqlite_tied.specs.Compute.{everything}
use Rattle.sqlite_value.specs.declared.keys.Collation.TheVariants.{Binary}
use Rattle.sqlite_value.specs.declared.keys.Key.{Key}
use Rattle.sqlite_rows.specs.Tables.{known}
use Rattle.sqlite_rows.specs.Cookies.{falling}
use Rattle.sqlite_rows.specs.Dues.{rising}
use Rattle.sqlite_rows.specs.Selects.{select}
use Rattle.sqlite_rows.specs.Texts.{get_text, put_text, cut_text, due_text, first_text, move_text, drop_text, all_cookies_text, last_text, set_last_text, greatest_text, make_items_text, index_items_text, make_items2_text, index_items2_text, make_cookies_text, begin_cookies_text}

abbrev pub no_limit : Term
no_limit = lit (Int (negsuc 0))

-- a query of one table with no order
abbrev pub query_of : ℕ → List Term → List Term → Query
query_of tree filter project = select tree filter project [] no_limit

abbrev pub alone : Query → Program
alone q = record { lets = []; body = q }

-- the column of the row is the first parameter
abbrev pub is_first : ℕ → List Term
is_first at = op2 (Compare Eq Binary) (col 1 at) (col 0 0) ∷ []

-- ---- the item of a key

abbrev pub key_test : Term
key_test = op2 (Compare Eq Binary) (col 1 1) (col 0 0)

abbrev pub get_query : Query
get_query = query_of 3 (key_test ∷ [])
    (col 1 2 ∷ col 1 3 ∷ col 1 4 ∷ col 1 5 ∷ col 1 6 ∷ col 1 7 ∷ col 1 8 ∷ col 1 9 ∷ [])

abbrev pub get_names : List (List ℕ)
get_names = codes "body" ∷ codes "minutes" ∷ codes "fresh" ∷ codes "cookie" ∷ codes "since"
    ∷ codes "touched" ∷ codes "ends" ∷ codes "expiry" ∷ []

pub get_is : (command_of (understood known get_text) ≡ Select (alone get_query) get_names)
    × (reads_listing known get_text ≡ false)
unfolding understood everything
get_is = (refl, refl)

pub get_plain : IsPlain (understood known get_text)
unfolding understood everything
get_plain = (refl, refl)

-- ---- the upsert

abbrev pub put_terms : List Term
put_terms = lit Null ∷ col 0 0 ∷ col 0 1 ∷ col 0 2 ∷ col 0 3 ∷ col 0 4 ∷ col 0 5 ∷ col 0 6 ∷ col 0 7
    ∷ col 0 8 ∷ []

-- the row of the taken key, as it is to be: its rowid and key, and what the new row has behind its key
abbrev pub put_query : Query
put_query = query_of 3 (op2 (Compare Eq Binary) (col 1 0) (col 0 9) ∷ [])
    (col 1 0 ∷ col 1 0 ∷ col 1 1 ∷ col 0 12 ∷ col 0 13 ∷ col 0 14 ∷ col 0 15 ∷ col 0 16 ∷ col 0 17
    ∷ col 0 18 ∷ col 0 19 ∷ [])

abbrev pub put_clause : Upsert
put_clause = record { target = Some (1 ∷ []); update = Some (alone put_query) }

abbrev pub put_command : Command
put_command = InsertOr 1 Abort (Values put_terms 10) (put_clause ∷ [])

pub put_is : command_of (understood known put_text) ≡ put_command
unfolding understood everything
put_is = refl

pub put_plain : IsPlain (understood known put_text)
unfolding understood everything
put_plain = (refl, refl)

-- ---- a deletion by key

abbrev pub col_rowid : Term
col_rowid = col 1 0

abbrev pub rows_of_key : ℕ → Query
rows_of_key tree = query_of tree (key_test ∷ []) (col_rowid ∷ [])

pub cut_is : command_of (understood known cut_text) ≡ Delete 1 (alone (rows_of_key 3))
unfolding understood everything
cut_is = refl

pub cut_plain : IsPlain (understood known cut_text)
unfolding understood everything
cut_plain = (refl, refl)

pub drop_is : command_of (understood known drop_text) ≡ Delete 0 (alone (rows_of_key 0))
unfolding understood everything
drop_is = refl

pub drop_plain : IsPlain (understood known drop_text)
unfolding understood everything
drop_plain = (refl, refl)

-- ---- the first row of an order

abbrev pub col_key : Term
col_key = col 1 1

abbrev pub one_row : Term
one_row = lit (Int (pos 1))

-- the row has expired at the moment that is the parameter
abbrev pub due_test : Term
due_test = op2 (Compare Le Binary) (col 1 9) (op1 ToNumeric (col 0 0))

abbrev pub due_order : List (Term × Key)
due_order = (col 1 9, rising) ∷ (col 1 1, rising) ∷ []

pub due_is : (command_of (understood known due_text) ≡ Select
    (alone (select 3 (due_test ∷ []) (col_key ∷ []) due_order one_row)) (codes "key" ∷ []))
    × (reads_listing known due_text ≡ false)
unfolding understood everything
due_is = (refl, refl)

pub due_plain : IsPlain (understood known due_text)
unfolding understood everything
due_plain = (refl, refl)

-- ---- the move of the old rows

abbrev pub first_columns : List Term
first_columns = col 1 2 ∷ col 1 3 ∷ col 1 4 ∷ col 1 5 ∷ col 1 6 ∷ col 1 7 ∷ col 1 8 ∷ col 1 1 ∷ []

abbrev pub first_order : List (Term × Key)
first_order = (col 1 1, rising) ∷ []

pub first_is : (command_of (understood known first_text) ≡ Select
    (alone (select 0 [] first_columns first_order one_row))
    (codes "body" ∷ codes "minutes" ∷ codes "fresh" ∷ codes "cookie" ∷ codes "since"
    ∷ codes "touched" ∷ codes "expiry" ∷ codes "key" ∷ [])) × (reads_listing known first_text ≡ false)
unfolding understood everything
first_is = (refl, refl)

pub first_plain : IsPlain (understood known first_text)
unfolding understood everything
first_plain = (refl, refl)

-- where the key is taken, the row that has it stays
abbrev pub nothing_clause : Upsert
nothing_clause = record { target = Some (1 ∷ []); update = None }

pub move_is : command_of (understood known move_text) ≡ InsertOr 1 Abort (Values put_terms 10)
    (nothing_clause ∷ [])
unfolding understood everything
move_is = refl

pub move_plain : IsPlain (understood known move_text)
unfolding understood everything
move_plain = (refl, refl)

-- ---- the last cookie

abbrev pub all_cookies_columns : List Term
all_cookies_columns = col 1 0 ∷ col 1 2 ∷ []

pub all_cookies_is : (command_of (understood known all_cookies_text) ≡ Select
    (alone (select 6 [] all_cookies_columns [] no_limit)) (codes "id" ∷ codes "last" ∷ []))
    × (reads_listing known all_cookies_text ≡ false)
unfolding understood everything
all_cookies_is = (refl, refl)

pub all_cookies_plain : IsPlain (understood known all_cookies_text)
unfolding understood everything
all_cookies_plain = (refl, refl)

abbrev pub col_last : Term
col_last = col 1 2

abbrev pub col_cookie : Term
col_cookie = col 1 5

abbrev pub greatest_order : List (Term × Key)
greatest_order = (col 1 5, falling) ∷ (col 1 1, rising) ∷ []

abbrev pub is_one : Term
is_one = op2 (Compare Eq Binary) (col 1 0) (lit (Int (pos 1)))

pub last_is : (command_of (understood known last_text) ≡ Select
    (alone (select 6 (is_one ∷ []) (col_last ∷ []) [] no_limit)) (codes "last" ∷ []))
    × (reads_listing known last_text ≡ false)
unfolding understood everything
last_is = (refl, refl)

pub last_plain : IsPlain (understood known last_text)
unfolding understood everything
last_plain = (refl, refl)

abbrev pub set_last_query : Query
set_last_query = query_of 6 (is_one ∷ []) (col 1 0 ∷ col 1 0 ∷ lit Null ∷ col 0 0 ∷ [])

pub set_last_is : command_of (understood known set_last_text) ≡ Update 2 (alone set_last_query)
unfolding understood everything
set_last_is = refl

pub set_last_plain : IsPlain (understood known set_last_text)
unfolding understood everything
set_last_plain = (refl, refl)

pub greatest_is : (command_of (understood known greatest_text) ≡ Select
    (alone (select 3 [] (col_cookie ∷ []) greatest_order one_row)) (codes "cookie" ∷ []))
    × (reads_listing known greatest_text ≡ false)
unfolding understood everything
greatest_is = (refl, refl)

pub greatest_plain : IsPlain (understood known greatest_text)
unfolding understood everything
greatest_plain = (refl, refl)

-- ---- the row of the last cookie, where there is none

abbrev pub begin_terms : List Term
begin_terms = lit (Int (pos 1)) ∷ lit Null ∷ lit (Int (pos 0)) ∷ []

-- where the row is there, it stays
abbrev pub begin_clause : Upsert
begin_clause = record { target = Some (0 ∷ []); update = None }

abbrev pub begin_command : Command
begin_command = InsertOr 2 Abort (Values begin_terms 3) (begin_clause ∷ [])

pub begin_is : command_of (understood known begin_cookies_text) ≡ begin_command
unfolding understood everything
begin_is = refl

pub begin_plain : IsPlain (understood known begin_cookies_text)
unfolding understood everything
begin_plain = (refl, refl)

-- ---- the tables, which are there

-- where the text is understood it does nothing
abbrev pub DoesNothing : List ℕ → Type 0
DoesNothing text = (command_of (understood known text) ≡ Nothing)
    × IsPlain (understood known text)

pub make_items_is : DoesNothing make_items_text
unfolding understood everything
make_items_is = (refl, (refl, refl))

pub index_items_is : DoesNothing index_items_text
unfolding understood everything
index_items_is = (refl, (refl, refl))

pub make_items2_is : DoesNothing make_items2_text
unfolding understood everything
make_items2_is = (refl, (refl, refl))

pub index_items2_is : DoesNothing index_items2_text
unfolding understood everything
index_items2_is = (refl, (refl, refl))

pub make_cookies_is : DoesNothing make_cookies_text
unfolding understood everything
make_cookies_is = (refl, (refl, refl))
