-- What a reader may answer, by how far it has come.
use Rattle.std.proofs.Common.{◌≡◌, ℕ, ◌*◌, Bool, true, false, IsTrue, ◌<◌, ◌≤◌, List, ◌++◌, length, take, min, Some, refl, sym, ap, ◌∙◌, subst, arith, append_assoc, length-append, length-drop, drop, drop-drop, take-append-drop, ◌+◌}
use Rattle.std.proofs.lemmas.List.{take-append-le, length-take-le}
use Rattle.asp_messages.specs.Head.{most_head}
use Rattle.asp_messages.specs.Stream.{HasNoMessage, IsHopeless}
use Rattle.message_framing.specs.declared.head.Phase.{Phase}
use Rattle.message_framing.specs.declared.head.Phase.TheVariants.{Blank}
use Rattle.message_framing.specs.declared.message_reader.Begun.{Begun}
use Rattle.message_framing.specs.declared.message_reader.Found.{Found}
use Rattle.message_framing.specs.declared.message_reader.Found.TheVariants as founds
use Rattle.message_framing.specs.declared.message_reader.State.{State}
use Rattle.message_framing.specs.declared.message_reader.State.TheVariants as states
use Rattle.message_framing.specs.Framed.{Framed, GivesMessage, IsRead, IfFound, SearchStands, TakesFramed, is_broken_state, looks_of}
use Rattle.message_framing.specs.HeadEnd.{phase_after, EndsHead}
use Rattle.message_framing.specs.ReaderState.{CountedReader, TakesMessage}
use Rattle.message_framing.specs.Looks.{IsOpen}
use Rattle.message_framing.proofs.EndLemmas.{none-seen, long-seen, ends-same}

module _ {M : Type 0} (IsHead : List ℕ → ℕ → Type 0) (Means : List ℕ → List ℕ → M → Type 0)
    (filled : M → List ℕ → M)
    (ends : (text body : List ℕ) (m : M) → Means text body m
    → EndsHead text × (length text ≤ most_head))
    (fits : (text body : List ℕ) (len : ℕ) (m : M) → IsHead text len → Means text body m
    → length body ≡ len)
  where
    -- a framed message at the front, in three parts
    in_three : (bytes front back : List ℕ) (m : M) (f : Framed Means front m)
        → bytes ≡ front ++ back → bytes ≡ f.text ++ (f.body ++ back)
    in_three bytes front back m f is = is ∙ ap (λ t. t ++ back) f.bytes_are
        ∙ append_assoc f.text f.body back

    -- no head's end was seen in the bytes
    pub unseen-none : (bytes : List ℕ) (p : Phase) → phase_after Blank bytes ≡ Some p
        → HasNoMessage (Framed Means) bytes
    unseen-none bytes p so front back m is f =
        none-seen bytes f.text (f.body ++ back) p so (ends f.text f.body m f.means).0
        (in_three bytes front back m f is)

    -- nor in as many as a head may have
    pub unseen-hopeless : (bytes : List ℕ) (n : ℕ) (p : Phase) → IsOpen bytes n p → most_head ≤ n
        → IsHopeless (Framed Means) bytes
    unseen-hopeless bytes n p so long more front back m is f =
        let front_same : take n (bytes ++ more) ≡ take n bytes =
        take-append-le n bytes more so.within in
        let head = ends f.text f.body m f.means in
        let behind : n < length f.text =
        long-seen (bytes ++ more) f.text (f.body ++ back) n p
        (ap (phase_after Blank) front_same ∙ so.seen_so) head.0
        (in_three (bytes ++ more) front back m f is) in
        omega (arith, head.1)

    -- the head was read, and its body is not whole
    pub short-none : (held : List ℕ) (n : ℕ) (begun : Begun M)
        → IsRead IsHead Means filled held n begun → length held < n + begun.body_len
        → HasNoMessage (Framed Means) held
    short-none held n begun read short front back m is f =
        let parted : take n held ++ drop n held ≡ f.text ++ (f.body ++ back) =
        take-append-drop n held ∙ in_three held front back m f is in
        let same = ends-same (take n held) f.text (drop n held) (f.body ++ back) read.ended.ends
        (ends f.text f.body m f.means).0 parted in
        let len : length f.body ≡ begun.body_len =
        fits f.text f.body begun.body_len m (subst (λ t. IsHead t begun.body_len) same.0
        read.is_head) f.means in
        omega (
          arith,
          read.ended.within,
          ap length same.1,
          length-append f.body back,
          length-drop n held,
        )

    -- no message begins with the head
    pub unread-hopeless : (text held : List ℕ) → EndsHead text
        → ((body : List ℕ) (m : M) → Means text body m → ⊥)
        → IsHopeless (Framed Means) (text ++ held)
    unread-hopeless text held end none more front back m is f =
        let same = ends-same text f.text (held ++ more) (f.body ++ back) end
        (ends f.text f.body m f.means).0
        (sym (append_assoc text held more) ∙ in_three ((text ++ held) ++ more) front back m f is) in
        none f.body m (subst (λ t. Means t f.body m) (sym same.0) f.means)

-- ---- spellings

module _ {M : Type 0} (Means : List ℕ → List ℕ → M → Type 0) (Spells : List ℕ → M → Type 0) where
  -- bytes without a head and a body that mean a message spell none
  pub spelled-none : ((bytes : List ℕ) (m : M) → Spells bytes m → Framed Means bytes m)
      → (bytes : List ℕ) → HasNoMessage (Framed Means) bytes → HasNoMessage Spells bytes
  spelled-none spelled bytes none front back m is s = none front back m is (spelled front m s)

  pub spelled-hopeless : ((bytes : List ℕ) (m : M) → Spells bytes m → Framed Means bytes m)
      → (bytes : List ℕ) → IsHopeless (Framed Means) bytes → IsHopeless Spells bytes
  spelled-hopeless spelled bytes none more = spelled-none spelled (bytes ++ more) (none more)

  -- a head and a body that were taken spell the message
  pub spelled-taken : ((text body : List ℕ) (m : M) → Means text body m → Spells (text ++ body) m)
      → (old new : CountedReader) (ticks : ℕ) (m : M) → TakesFramed Means old new ticks m
      → TakesMessage Spells old.bytes new.bytes m
  spelled-taken spells old new ticks m took = record {
    front = took.text ++ took.body;
    spells = spells took.text took.body m took.means;
    held = took.held;
    whole = took.whole;
  }

-- ---- states

-- the looks at a message that may still come
pub stands-looks : {M : Type 0} (IsHead : List ℕ → ℕ → Type 0)
    (Means : List ℕ → List ℕ → M → Type 0) (filled : M → List ℕ → M) (state : State M)
    (held : List ℕ) → SearchStands IsHead Means filled state held → is_broken_state state ≡ false
    → looks_of state ≤ 2 * min (length held) most_head
stands-looks IsHead Means filled (states.Looking n phase) held so whole =
    omega (arith, so.within, so.short)
stands-looks IsHead Means filled (states.Ended n) held so whole =
    omega (arith, so.within, so.short)
stands-looks IsHead Means filled (states.Read n begun) held so whole =
    omega (arith, so.ended.within, so.ended.short)
stands-looks IsHead Means filled (states.Broken n) held so whole = cc

-- the message that was begun is the one that the state has
pub begun-same : {M : Type 0} (a b : ℕ) (x y : Begun M) → states.Read a x ≡ states.Read b y → x ≡ y
begun-same a b x y same = cc

-- a message was found
pub gives : {M : Type 0} (IsHead : List ℕ → ℕ → Type 0) (Means : List ℕ → List ℕ → M → Type 0)
    (filled : M → List ℕ → M) (held body left : List ℕ) (n : ℕ) (begun : Begun M) (m : M)
    → IsRead IsHead Means filled held n begun → n + begun.body_len ≤ length held
    → body ≡ take begun.body_len (drop n held) → left ≡ drop (n + begun.body_len) held
    → m ≡ filled begun.message body → GivesMessage Means (states.Read n begun) held left m
gives IsHead Means filled held body left n begun m read come is rest filled_is =
    let wanted = begun.body_len in
    let room : wanted ≤ length (drop n held) = omega (arith, length-drop n held) in
    let len : length body ≡ wanted = ap length is ∙ length-take-le wanted (drop n held) room in
    let text : length (take n held) ≡ n = length-take-le n held read.ended.within in
    let back : drop n held ≡ body ++ left = sym (take-append-drop wanted (drop n held))
    ∙ ap (λ l. take wanted (drop n held) ++ l) (drop-drop wanted n held ∙ sym rest)
    ∙ ap (λ l. l ++ left) (sym is) in
    record {
      text = take n held;
      body = body;
      means = subst (λ it. Means (take n held) body it) (sym filled_is) (read.means body len);
      held = sym (take-append-drop n held) ∙ ap (λ l. take n held ++ l) back
          ∙ sym (append_assoc (take n held) body left);
      looks = ap (λ k. 2 * k) (sym text);
      whole = refl;
    }

-- a fact of what was found
pub if-found : {M : Type 0} (found : Found M) (P Q : M → Type 0) → IfFound found P
    → ((m : M) → P m → Q m) → IfFound found Q
if-found (founds.Message m) P Q p f = f m p
if-found founds.More P Q p f = tt
if-found founds.Broken P Q p f = tt
if-found founds.NoMemory P Q p f = tt

-- what is not so, where it can't be
pub is-false : (b : Bool) → (IsTrue b → ⊥) → b ≡ false
is-false true not_so = absurd (not_so refl)
is-false false not_so = refl

pub either-way : (b : Bool) (R : Type 0) → (b ≡ true → R) → (b ≡ false → R) → R
either-way true R yes_so not_so = yes_so refl
either-way false R yes_so not_so = not_so refl
