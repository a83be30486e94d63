-- What clauses see of a source and of a drawer.
use Rattle.std.specs.Prelude.{◌≡◌, ℕ, List, []}
use Rattle.atomic_table.specs.Seated.{TableId}
use Rattle.cookie_source.specs.declared.source.CookieSource.{CookieSource}
use Rattle.cookie_source.specs.declared.source.Drawer.{Drawer}

-- which source it is, and its first cookie
abbrev pub source_id : CookieSource → TableId × ℕ
source_id c = (c.table.shared.table_id, c.table.shared.key)

abbrev pub first_of : CookieSource → ℕ
first_of c = c.table.shared.key

abbrev pub last_of : CookieSource → ℕ
last_of c = c.last

-- the source that made the drawer, and its first cookie
abbrev pub drawer_home : Drawer → TableId × ℕ
drawer_home d = (d.seat.table_id, d.seat.me.0.first_cookie)

-- the cookies that the drawer drew, in order
abbrev pub drawn_by : Drawer → List ℕ
drawn_by d = d.seat.me.0.drawn

-- the counter's word that the drawer last saw
abbrev pub word_seen : Drawer → ℕ
word_seen d = d.seat.me.0.seen

-- a drawer of this source that drew nothing
pub record IsNewDrawer (source : CookieSource) (d : Drawer) : Type 0 where
  pub home : drawer_home d ≡ source_id source
  pub nothing_drawn : drawn_by d ≡ []
  pub seen : word_seen d ≡ first_of source
