-- The texts of the statements.
use Rattle.std.specs.Prelude.{ℕ, List, ◌++◌, codes}

abbrev pub get_text : List ℕ
get_text = codes "SELECT body, minutes, fresh, cookie, since, touched, ends, expiry FROM items2 "
    ++ codes "WHERE key = ?1"

abbrev pub put_text : List ℕ
put_text =
    codes "INSERT INTO items2 (key, body, minutes, fresh, cookie, since, touched, ends, expiry) "
    ++ codes "VALUES (?1, ?2, ?3, ?4, ?5, ?6, ?7, ?8, ?9) ON CONFLICT (key) DO UPDATE SET "
    ++ codes "body = excluded.body, minutes = excluded.minutes, fresh = excluded.fresh, "
    ++ codes "cookie = excluded.cookie, since = excluded.since, touched = excluded.touched, "
    ++ codes "ends = excluded.ends, expiry = excluded.expiry"

abbrev pub cut_text : List ℕ
cut_text = codes "DELETE FROM items2 WHERE key = ?1"

abbrev pub due_text : List ℕ
due_text = codes "SELECT key FROM items2 WHERE expiry <= ?1 ORDER BY expiry, key LIMIT 1"

abbrev pub first_text : List ℕ
first_text = codes "SELECT body, minutes, fresh, cookie, since, touched, expiry, key FROM items "
    ++ codes "ORDER BY key LIMIT 1"

abbrev pub move_text : List ℕ
move_text =
    codes "INSERT INTO items2 (key, body, minutes, fresh, cookie, since, touched, ends, expiry) "
    ++ codes "VALUES (?1, ?2, ?3, ?4, ?5, ?6, ?7, ?8, ?9) ON CONFLICT (key) DO NOTHING"

abbrev pub drop_text : List ℕ
drop_text = codes "DELETE FROM items WHERE key = ?1"

abbrev pub all_cookies_text : List ℕ
all_cookies_text = codes "SELECT id, last FROM cookies"

abbrev pub last_text : List ℕ
last_text = codes "SELECT last FROM cookies WHERE id = 1"

abbrev pub set_last_text : List ℕ
set_last_text = codes "UPDATE cookies SET last = ?1 WHERE id = 1"

abbrev pub greatest_text : List ℕ
greatest_text = codes "SELECT cookie FROM items2 ORDER BY cookie DESC, key LIMIT 1"

-- the texts that make the tables and their indexes where they are absent
abbrev pub make_items_text : List ℕ
make_items_text = codes "CREATE TABLE IF NOT EXISTS items (key BLOB PRIMARY KEY, "
    ++ codes "body BLOB NOT NULL, minutes INTEGER NOT NULL, fresh INTEGER NOT NULL, "
    ++ codes "cookie INTEGER NOT NULL, since INTEGER NOT NULL, touched INTEGER NOT NULL, "
    ++ codes "expiry INTEGER NOT NULL)"

abbrev pub index_items_text : List ℕ
index_items_text = codes "CREATE INDEX IF NOT EXISTS items_by_expiry ON items (expiry, key)"

abbrev pub make_items2_text : List ℕ
make_items2_text = codes "CREATE TABLE IF NOT EXISTS items2 (key BLOB PRIMARY KEY, "
    ++ codes "body BLOB NOT NULL, minutes INTEGER NOT NULL, fresh INTEGER NOT NULL, "
    ++ codes "cookie INTEGER NOT NULL, since INTEGER NOT NULL, touched INTEGER NOT NULL, "
    ++ codes "ends INTEGER NOT NULL, expiry INTEGER NOT NULL)"

abbrev pub index_items2_text : List ℕ
index_items2_text = codes "CREATE INDEX IF NOT EXISTS items2_by_expiry ON items2 (expiry, key)"

abbrev pub make_cookies_text : List ℕ
make_cookies_text = codes "CREATE TABLE IF NOT EXISTS cookies (id INTEGER PRIMARY KEY, "
    ++ codes "last INTEGER NOT NULL)"

abbrev pub begin_cookies_text : List ℕ
begin_cookies_text =
    codes "INSERT INTO cookies (id, last) VALUES (1, 0) ON CONFLICT (id) DO NOTHING"
