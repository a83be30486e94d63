-- The words of a `page` line.
use Rattle.std.proofs.Common.{◌≡◌, ◌≢◌, ℕ, List, ◌∷◌, ◌++◌, length, drop, get_or, refl, sym, ap, ◌∙◌, arith, lit<}
use Rattle.std.specs.Prelude.{codes, decimal}
use Rattle.asp_messages.specs.PlainSpelling.{bytes_word}
use Rattle.plain_words.specs.Words.{AreBytes, IsByteString, SplitsAt}
use Rattle.plain_words.proofs.ByteStringLemmas.{string_injective}
use Rattle.plain_words.proofs.SplitLemmas.{split_same}
use Rattle.visit_core.specs.declared.act.Ending.{Ending}
use Rattle.visit_core.specs.declared.act.Ending.TheVariants.{Save, Keep, Abandon}
use Rattle.visit_core.specs.declared.visit_terms.Need.{Need}
use Rattle.visit_core.specs.declared.visit_terms.Need.TheVariants.{Exclusive, ReadOnly, Off}
use Rattle.page_script.specs.declared.line.PageLine.{PageLine}
use Rattle.page_script.specs.Lines.{ending_words, need_word}
use Rattle.page_script.specs.LineParts.{IsEnding, IsKey, IsNumberThen, IsPage, IsPageHead, IsSave}
use Rattle.page_script.proofs.CutLemmas.{bytes_no_space, four_words, name_no_space, need_no_space, one_number_then, two_words}

-- ---- keys

bytes_same : (text a b : List ℕ) → AreBytes a → AreBytes b → text ≡ bytes_word a
    → text ≡ bytes_word b → a ≡ b
bytes_same text a b is_a is_b ea eb = string_injective a b is_a is_b (ap (drop 1) (sym ea ∙ eb))

-- a key that was read is no key where it is empty
pub empty_key : (word bytes : List ℕ) (most : ℕ) → IsByteString word most bytes → length bytes ≡ 0
    → (key : List ℕ) → ¬ IsKey word key
empty_key word bytes most read empty key is =
    let same = ap length (bytes_same word bytes key read.are_bytes is.bytes read.spelled
    is.spelled) in
    let some = is.fits.0 in
    omega (arith, same, empty, some)

-- ---- what is saved

-- the words behind `save`
pub save_words : (text words : List ℕ) (saved : ℕ × List ℕ) → text ≡ codes "save " ++ words
    → IsSave text saved
    → IsNumberThen words 525600 saved.0 (bytes_word saved.1)
save_words text words saved front is = record {
  spelled = ap (drop 5) (sym front ∙ is.spelled) ∙ two_words (decimal saved.0) (bytes_word saved.1);
  small = is.minutes.1;
}

pub save_parts : (text words body : List ℕ) (minutes : ℕ) (saved : ℕ × List ℕ)
    → text ≡ codes "save " ++ words → IsNumberThen words 525600 minutes body
    → IsSave text saved → (minutes ≡ saved.0) × IsByteString body 4194304 saved.1
save_parts text words body minutes saved front read is =
    let same = one_number_then words 525600 minutes saved.0 body (bytes_word saved.1) (lit< tt) read
    (save_words text words saved front is) in
    (same.0, record { spelled = same.1; short = is.body; are_bytes = is.bytes })

-- no minutes are no ending
pub no_minutes : (text words body : List ℕ) (minutes : ℕ) → text ≡ codes "save " ++ words
    → IsNumberThen words 525600 minutes body → minutes ≡ 0
    → (saved : ℕ × List ℕ) → ¬ IsSave text saved
no_minutes text words body minutes front read zero saved is =
    let same = (save_parts text words body minutes saved front read is).0 in
    let some = is.minutes.0 in
    omega (arith, same, zero, some)

-- ---- endings

-- an ending that is none of the bare ones saves
pub no_ending : (text : List ℕ) → text ≢ ending_words Keep → text ≢ ending_words Abandon
    → ((saved : ℕ × List ℕ) → ¬ IsSave text saved)
    → (ending : Ending) → ¬ IsEnding text ending
no_ending text keep abandon save (Save body minutes) is = save (minutes, body) (record {
  spelled = is.spelled;
  minutes = is.fits.1;
  body = is.fits.0;
  bytes = is.bytes;
})
no_ending text keep abandon save Keep is = keep is.spelled
no_ending text keep abandon save Abandon is = abandon is.spelled

-- ---- the words of a page

-- the parts of a page
pub page_head : (text : List ℕ) (page : PageLine) → IsPage text page
    → IsPageHead text page.name (bytes_word page.key) page.need (ending_words page.ending)
page_head text page is = record {
  spelled = is.spelled ∙ four_words page.name (bytes_word page.key) (need_word page.need)
      (ending_words page.ending);
  name_is = is.fits.name;
  key_word = bytes_no_space page.key is.fits.key_bytes;
}

-- the name stands before the first space
pub head_first : (text name key : List ℕ) (need : Need) (ending : List ℕ)
    → IsPageHead text name key need ending
    → SplitsAt 32 text name (key ++ 32 ∷ (need_word need ++ 32 ∷ ending))
head_first text name key need ending is = record {
  joined = is.spelled;
  first =
      name_no_space name is.name_is;
}

-- the key before the second
pub head_second : (text word rest name key : List ℕ) (need : Need) (ending : List ℕ)
    → SplitsAt 32 text word rest → IsPageHead text name key need ending
    → (word ≡ name) × SplitsAt 32 rest key (need_word need ++ 32 ∷ ending)
head_second text word rest name key need ending split is =
    let same = split_same 32 text word rest name (key ++ 32 ∷ (need_word need ++ 32 ∷ ending)) split
    (head_first text name key need ending is) in
    (same.0, record { joined = same.1; first = is.key_word })

-- the need before the third
pub head_third : (text word rest again last name key : List ℕ) (need : Need) (ending : List ℕ)
    → SplitsAt 32 text word rest → SplitsAt 32 rest again last
    → IsPageHead text name key need ending → (word ≡ name) × (again ≡ key)
    × SplitsAt 32 last (need_word need) ending
head_third text word rest again last name key need ending split next is =
    let second = head_second text word rest name key need ending split is in
    let same = split_same 32 rest again last key (need_word need ++ 32 ∷ ending) next second.1 in
    (second.0, same.0, record { joined = same.1; first = need_no_space need })

-- a text has one name, one key, one need and one ending
pub one_head : (text name key : List ℕ) (need : Need) (ending other word : List ℕ) (want : Need)
    (rest : List ℕ)
    → IsPageHead text name key need ending → IsPageHead text other word want rest
    → (name ≡ other) × (key ≡ word) × (need_word need ≡ need_word want) × (ending ≡ rest)
one_head text name key need ending other word want rest is also =
    let first = head_first text name key need ending is in
    let second = head_second text name (key ++ 32 ∷ (need_word need ++ 32 ∷ ending)) name key need
    ending first is in
    let third = head_third text name (key ++ 32 ∷ (need_word need ++ 32 ∷ ending)) key
    (need_word need ++ 32 ∷ ending) other word want rest first second.1 also in
    let fourth : SplitsAt 32 (need_word need ++ 32 ∷ ending) (need_word need) ending =
    record { joined = (λ i. need_word need ++ 32 ∷ ending); first = need_no_space need } in
    let same = split_same 32 (need_word need ++ 32 ∷ ending) (need_word need) ending
    (need_word want) rest fourth third.2 in
    (third.0, third.1, same.0, same.1)

-- a page's key and ending are those of its parts
pub page_parts : (text name key : List ℕ) (need : Need) (ending : List ℕ) (page : PageLine)
    → IsPageHead text name key need ending → IsPage text page
    → IsKey key page.key × IsEnding ending page.ending
page_parts text name key need ending page head is =
    let same = one_head text name key need ending page.name (bytes_word page.key) page.need
    (ending_words page.ending) head (page_head text page is) in (
      record { spelled = same.1; fits = is.fits.key; bytes = is.fits.key_bytes },
      record { spelled = same.3; fits = is.fits.ending; bytes = is.fits.ending_bytes },
    )

-- ---- one page

need_same : (a b : Need) → need_word a ≡ need_word b → a ≡ b
need_same Exclusive Exclusive e = refl
need_same Exclusive ReadOnly e = let first = ap (λ t. get_or t 0 0) e in
    absurd (omega (arith, first))
need_same Exclusive Off e = let first = ap (λ t. get_or t 0 0) e in absurd (omega (arith, first))
need_same ReadOnly Exclusive e = let first = ap (λ t. get_or t 0 0) e in
    absurd (omega (arith, first))
need_same ReadOnly ReadOnly e = refl
need_same ReadOnly Off e = let first = ap (λ t. get_or t 0 0) e in absurd (omega (arith, first))
need_same Off Exclusive e = let first = ap (λ t. get_or t 0 0) e in absurd (omega (arith, first))
need_same Off ReadOnly e = let first = ap (λ t. get_or t 0 0) e in absurd (omega (arith, first))
need_same Off Off e = refl

save_of : (text body : List ℕ) (minutes : ℕ) → IsEnding text (Save body minutes)
    → IsSave text (minutes, body)
save_of text body minutes is = record {
  spelled = is.spelled;
  minutes = is.fits.1;
  body =
      is.fits.0;
  bytes = is.bytes;
}

one_save : (text a b : List ℕ) (m n : ℕ) → IsSave text (m, a) → IsSave text (n, b)
    → (m ≡ n) × (a ≡ b)
one_save text a b m n is other =
    let words = decimal m ++ 32 ∷ bytes_word a in
    let front : text ≡ codes "save " ++ words = is.spelled
    ∙ ap (λ t. codes "save " ++ t) (two_words (decimal m) (bytes_word a)) in
    let read : IsNumberThen words 525600 m (bytes_word a) =
    record { spelled = refl; small = is.minutes.1 } in
    let parts = save_parts text words (bytes_word a) m (n, b) front read other in
    (parts.0, bytes_same (bytes_word a) a b is.bytes other.bytes refl parts.1.spelled)

-- a text spells one ending
one_ending : (text : List ℕ) (a b : Ending) → IsEnding text a → IsEnding text b → a ≡ b
one_ending text (Save a m) (Save b n) is other =
    let same = one_save text a b m n (save_of text a m is) (save_of text b n other) in
    λ i. Save (same.1 i) (same.0 i)
one_ending text (Save a m) Keep is other = let first =
    ap (λ t. get_or t 0 0) (sym is.spelled ∙ other.spelled) in absurd (omega (arith, first))
one_ending text (Save a m) Abandon is other = let first =
    ap (λ t. get_or t 0 0) (sym is.spelled ∙ other.spelled) in absurd (omega (arith, first))
one_ending text Keep (Save b n) is other = let first =
    ap (λ t. get_or t 0 0) (sym is.spelled ∙ other.spelled) in absurd (omega (arith, first))
one_ending text Keep Keep is other = refl
one_ending text Keep Abandon is other = let first =
    ap (λ t. get_or t 0 0) (sym is.spelled ∙ other.spelled) in absurd (omega (arith, first))
one_ending text Abandon (Save b n) is other = let first =
    ap (λ t. get_or t 0 0) (sym is.spelled ∙ other.spelled) in absurd (omega (arith, first))
one_ending text Abandon Keep is other = let first =
    ap (λ t. get_or t 0 0) (sym is.spelled ∙ other.spelled) in absurd (omega (arith, first))
one_ending text Abandon Abandon is other = refl

-- a text spells one page
pub one_page : (text : List ℕ) (a b : PageLine) → IsPage text a → IsPage text b → a ≡ b
one_page text a b is other =
    let same = one_head text a.name (bytes_word a.key) a.need (ending_words a.ending) b.name
    (bytes_word b.key) b.need (ending_words b.ending)
    (page_head text a is) (page_head text b other) in
    let key = bytes_same (bytes_word a.key) a.key b.key is.fits.key_bytes other.fits.key_bytes refl
    same.1 in
    let need = need_same a.need b.need same.2 in
    let ending = one_ending (ending_words a.ending) a.ending b.ending
    (record { spelled = refl; fits = is.fits.ending; bytes = is.fits.ending_bytes })
    (record { spelled = same.3; fits = other.fits.ending; bytes = other.fits.ending_bytes }) in
    λ i. record { name = same.0 i; key = key i; need = need i; ending = ending i }
