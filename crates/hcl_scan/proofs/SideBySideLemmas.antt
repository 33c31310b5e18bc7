-- The facts of adjacent tokens in a scan, by one reading from the front.
use Rattle.std.proofs.Common.{◌≡◌, ℕ, ◌<◌, ◌||◌, ◌==◌, Bool, true, false, cond, List, [], ◌∷◌, ◌++◌, length, drop, get_or, inl, inr, refl, sym, ap, subst, ◌∙◌, arith, length-append}
use Rattle.hcl_tokens.specs.Lexemes.{Lexeme, Opener, Quote, Heredoc, Sequence, Brace, Bracket, Paren, in_heredoc, open_after, pop_if, below_groups, same_opener}
use Rattle.hcl_tokens.specs.Spelling.{IsExpressionText, context, Template, Expression}
use Rattle.hcl_tokens.specs.Scans.{State, ahead, begin, IsLongest, Leaves, Reads, Closes, Next, Run, Scans}
use Rattle.hcl_scan.specs.Inner.Prefixes.{prefix_of}
use Rattle.hcl_scan.specs.declared.front.Prefix.TheVariants.{LineEnd}
use Rattle.hcl_tokens.specs.declared.token.Kind.{Kind}
use Rattle.hcl_tokens.specs.declared.token.Kind.TheVariants.{Newline, LineComment, HeredocOpen, QuoteOpen, ParenOpen, BracketOpen, BraceOpen, ParenClose, BracketClose, SeqClose, BraceClose, Lit, InterpOpen, ControlOpen, QuoteClose, HeredocClose}
use Rattle.hcl_tokens.proofs.BooleanLemmas.{and_true}
use Rattle.hcl_scan.proofs.WayLemmas.{ways}
use Rattle.hcl_scan.proofs.PrefixLemmas.{leads, some, newline_leads, line_kind}
use Rattle.hcl_tokens.proofs.ExpressionKindLemmas.{in_expressions}
use Rattle.hcl_scan.proofs.KindPlaceLemmas.{Side, expression, template, side}
use Rattle.hcl_scan.proofs.TemplateLemmas.{Way, lit, interp, control, quote, way_template}
use Rattle.hcl_tokens.specs.Neighbours.{ends_comment}
use Rattle.hcl_tokens.specs.Regapped.{is_template}
use Rattle.hcl_tokens.specs.SideBySide.{opens_template, Beside, Besides}
use Rattle.hcl_scan.proofs.ContextLemmas.{is_expression, expression_is, not_both}
use Rattle.hcl_scan.proofs.OpenStackLemmas.{Sound, is_grounded, stacks, below}
use Rattle.hcl_scan.proofs.FirstByteLemmas.{begins}
use Rattle.hcl_scan.proofs.InExpressionLemmas.{no_template}
use Rattle.hcl_scan.proofs.AfterCommentLemmas.{comment_spelled, line_gap, comment_ends}

-- ---- the continuation of a template
popped_context : (is : Opener → Bool) → is Sequence ≡ false → (opens : List Opener) → context opens ≡ Expression → is_grounded opens ≡ true → context (pop_if is opens) ≡ Expression
popped_context is never [] e g = e
popped_context is never (Sequence ∷ os) e g = ap (λ b. context (cond b os (Sequence ∷ os))) never
popped_context is never (Heredoc ∷ os) e g = absurd (not_both Expression false refl (sym e))
popped_context is never (Quote ∷ os) e g = absurd (not_both Expression true refl (sym e))
popped_context is never (Brace ∷ os) e g = let x = expression_is (context os) (and_true (is_expression (context os)) (is_grounded os) g).0 in elim (is Brace) as (λ b. context (cond b os (Brace ∷ os)) ≡ Expression) [ true ↦ x | false ↦ e ]
popped_context is never (Bracket ∷ os) e g = let x = expression_is (context os) (and_true (is_expression (context os)) (is_grounded os) g).0 in elim (is Bracket) as (λ b. context (cond b os (Bracket ∷ os)) ≡ Expression) [ true ↦ x | false ↦ e ]
popped_context is never (Paren ∷ os) e g = let x = expression_is (context os) (and_true (is_expression (context os)) (is_grounded os) g).0 in elim (is Paren) as (λ b. context (cond b os (Paren ∷ os)) ≡ Expression) [ true ↦ x | false ↦ e ]

below_context : (opens : List Opener) → context opens ≡ Expression → is_grounded opens ≡ true → context (below_groups opens) ≡ Expression
below_context [] e g = e
below_context (Paren ∷ os) e g = let p = and_true (is_expression (context os)) (is_grounded os) g in below_context os (expression_is (context os) p.0) p.1
below_context (Bracket ∷ os) e g = let p = and_true (is_expression (context os)) (is_grounded os) g in below_context os (expression_is (context os) p.0) p.1
below_context (Heredoc ∷ os) e g = e
below_context (Quote ∷ os) e g = e
below_context (Sequence ∷ os) e g = e
below_context (Brace ∷ os) e g = e

-- the context after a token of an expression
data LeadsTo (kind : Kind) (opens : List Opener) : Type 0 where
  on : opens_template kind ≡ true → LeadsTo kind opens
  into : in_heredoc (open_after kind opens) ≡ true → LeadsTo kind opens
  stay : context (open_after kind opens) ≡ Expression → LeadsTo kind opens

leads_on : (kind : Kind) (opens : List Opener) → context opens ≡ Expression → is_grounded opens ≡ true → in_expressions kind ≡ true → LeadsTo kind opens
leads_on QuoteOpen opens e g k = on refl
leads_on SeqClose opens e g k = on refl
leads_on HeredocOpen opens e g k = into refl
leads_on ParenOpen opens e g k = stay refl
leads_on BracketOpen opens e g k = stay refl
leads_on BraceOpen opens e g k = stay refl
leads_on ParenClose opens e g k = stay (popped_context (same_opener Paren) refl opens e g)
leads_on BracketClose opens e g k = stay (popped_context (same_opener Bracket) refl opens e g)
leads_on BraceClose opens e g k = stay (popped_context (same_opener Brace) refl (below_groups opens) (below_context opens e g) (below opens g).1)
leads_on Lit opens e g k = absurd (cc)
leads_on InterpOpen opens e g k = absurd (cc)
leads_on ControlOpen opens e g k = absurd (cc)
leads_on QuoteClose opens e g k = absurd (cc)
leads_on HeredocClose opens e g k = absurd (cc)
leads_on _ opens e g k = stay e

quote_leaves : (opens : List Opener) → context opens ≡ Template true → is_grounded opens ≡ true → context (drop 1 opens) ≡ Expression
quote_leaves (Quote ∷ os) e g = expression_is (context os) (and_true (is_expression (context os)) (is_grounded os) g).0
quote_leaves (Heredoc ∷ os) e g = expression_is (context os) (and_true (is_expression (context os)) (is_grounded os) g).0
quote_leaves [] e g = absurd (not_both Expression true refl e)
quote_leaves (Sequence ∷ os) e g = absurd (not_both Expression true refl e)
quote_leaves (Brace ∷ os) e g = absurd (not_both Expression true refl e)
quote_leaves (Bracket ∷ os) e g = absurd (not_both Expression true refl e)
quote_leaves (Paren ∷ os) e g = absurd (not_both Expression true refl e)

template_after : (opens : List Opener) (dot : Bool) (kind : Kind) (text rest : List ℕ) → is_grounded opens ≡ true → Side opens dot kind text rest → in_heredoc (open_after kind opens) ≡ false → (quoted : Bool) → context (open_after kind opens) ≡ Template quoted → opens_template kind ≡ true
template_after opens dot kind text rest g (expression e k h) plain quoted c = by (leads_on kind opens e g k)
  where
    by : LeadsTo kind opens → opens_template kind ≡ true
    by (on x) = x
    by (into x) = absurd (cc)
    by (stay x) = absurd (not_both (context (open_after kind opens)) quoted x c)
template_after opens dot kind text rest g (template q e (lit k h)) plain quoted c = ap opens_template k
template_after opens dot kind text rest g (template q e (interp k h)) plain quoted c = absurd (not_both Expression quoted refl (sym (ap (λ (z : Kind). context (open_after z opens)) k) ∙ c))
template_after opens dot kind text rest g (template q e (control k h)) plain quoted c = absurd (not_both Expression quoted refl (sym (ap (λ (z : Kind). context (open_after z opens)) k) ∙ c))
template_after opens dot kind text rest g (template q e (quote k t h)) plain quoted c = absurd (not_both (context (drop 1 opens)) quoted (quote_leaves opens (e ∙ ap Template t) g) (sym (ap (λ (z : Kind). context (open_after z opens)) k) ∙ c))

-- ---- one token after the other
record Stood (before : Kind) (s : State) : Type 0 where
  sound : Sound s.opens s.hidden
  comment : in_heredoc s.opens ≡ false → before ≡ LineComment → (context s.opens ≡ Expression) × (ends_comment s.seen ≡ true)
  template : in_heredoc s.opens ≡ false → (quoted : Bool) → context s.opens ≡ Template quoted → opens_template before ≡ true

lf_lead : (text rest : List ℕ) → 0 < length text → ends_comment (text ++ rest) ≡ true → prefix_of text ≡ LineEnd
lf_lead [] rest long h = absurd (omega arith)
lf_lead (b ∷ text) rest long h = newline_leads b (get_or (b ∷ text) 1 0) (λ i. h i || (b == 13))

no_closer : (quoted : Bool) (kind : Kind) (text rest : List ℕ) → Way quoted kind text rest → kind ≡ HeredocClose → ⊥
no_closer quoted kind text rest (lit k h) e = let f = sym k ∙ e in cc
no_closer quoted kind text rest (interp k h) e = let f = sym k ∙ e in cc
no_closer quoted kind text rest (control k h) e = let f = sym k ∙ e in cc
no_closer quoted kind text rest (quote k q h) e = let f = sym k ∙ e in cc

module _ (before : Kind) (s : State) (t : Lexeme) (next : State) (stood : Stood before s) where
  closes_beside : Closes s t next → Beside before t
  closes_beside c = record {
    comment = λ i k. absurd (let e = sym c.inside ∙ i in cc);
    template = λ i k. absurd (let e = sym c.inside ∙ i in cc);
    begins = λ i k. absurd (let e = sym c.inside ∙ i in cc);
    closer = λ k. c.inside;
    tilde = λ i k. absurd (let e = sym c.inside ∙ i in cc);
  }

  reads_beside : (r : Reads s t next) → Side s.opens s.after_dot t.kind t.text r.rest → Beside before t
  reads_beside r (expression e k h) = record {
    comment = λ i b.
        let st = stood.comment (sym r.inside ∙ i) b in
        let w = ways s.opens s.after_dot t.kind t.text r.rest h in
        let long = some s.opens s.after_dot t.kind t.text r.rest w in
        let there : ahead s ≡ s.seen = line_gap s.opens s.seen (omega (arith, long, ap length r.longest.whole, length-append t.text r.rest)) st.1 in
        line_kind t.kind (sym (leads s.opens s.after_dot t.kind t.text r.rest w) ∙ lf_lead t.text r.rest long (ap ends_comment (r.longest.whole ∙ there) ∙ st.1));
    template = λ i b. absurd (let f = no_template t.kind k in cc);
    begins = λ i b. begins s.opens s.after_dot t.kind t.text r.rest (sym r.inside ∙ i) (ways s.opens s.after_dot t.kind t.text r.rest h);
    closer = λ b. absurd (let f = sym (no_template t.kind k) ∙ ap is_template b in cc);
    tilde = λ i b. (subst (λ (z : Kind). IsExpressionText s.opens s.after_dot z t.text r.rest) b h).1;
  }
  reads_beside r (template quoted e w) = record {
    comment = λ i b. absurd (not_both (context s.opens) quoted (stood.comment (sym r.inside ∙ i) b).0 e);
    template = λ i b. stood.template (sym r.inside ∙ i) quoted e;
    begins = λ i b. absurd (let f = way_template quoted t.kind t.text r.rest w in cc);
    closer = λ b. absurd (no_closer quoted t.kind t.text r.rest w b);
    tilde = λ i b. absurd (let f = sym (ap is_template b) ∙ way_template quoted t.kind t.text r.rest w in cc);
  }

  beside : Next s t next → Beside before t
  beside (inl r) = reads_beside r (side s.opens s.after_dot t.kind t.text r.rest r.longest.spelled)
  beside (inr c) = closes_beside c

  reads_stood : Reads s t next → Sound next.opens next.hidden → Stood t.kind next
  reads_stood r sound = record {
    sound = sound;
    comment = λ plain k.
        let longest : IsLongest s.opens s.after_dot (t.text ++ r.rest) LineComment t.text r.rest = subst (λ (z : Kind). IsLongest s.opens s.after_dot (t.text ++ r.rest) z t.text r.rest) k (subst (λ l. IsLongest s.opens s.after_dot l t.kind t.text r.rest) (sym r.longest.whole) r.longest) in
        let spelled = comment_spelled s.opens s.after_dot t.text r.rest (side s.opens s.after_dot LineComment t.text r.rest longest.spelled) in
        let same : next.opens ≡ s.opens = r.opens ∙ ap (λ (z : Kind). open_after z s.opens) k in
        let seen_is : next.seen ≡ r.rest = (subst (λ (z : Kind). Leaves z t.text r.rest s.hidden next.seen next.hidden) k r.leaves).0 in
        (ap context same ∙ spelled.0, ap ends_comment seen_is ∙ comment_ends s.opens s.after_dot t.text r.rest spelled.0 spelled.1 longest);
    template = λ plain quoted c. template_after s.opens s.after_dot t.kind t.text r.rest stood.sound.grounded (side s.opens s.after_dot t.kind t.text r.rest r.longest.spelled)
        (ap in_heredoc (sym r.opens) ∙ plain) quoted (ap context (sym r.opens) ∙ c);
  }

  closes_stood : Closes s t next → Sound next.opens next.hidden → Stood t.kind next
  closes_stood c sound = record {
    sound = sound;
    comment = λ plain k. absurd (let e = sym c.kind ∙ k in cc);
    template = λ plain quoted e.
        let g : is_grounded (Heredoc ∷ c.below) ≡ true = subst (λ l. is_grounded l ≡ true) c.top stood.sound.grounded in
        let x = expression_is (context c.below) (and_true (is_expression (context c.below)) (is_grounded c.below) g).0 in
        absurd (not_both (context next.opens) quoted (ap (λ (z : State). context z.opens) c.next_is ∙ x) e);
  }

  stood_on : Next s t next → Sound next.opens next.hidden → Stood t.kind next
  stood_on (inl r) sound = reads_stood r sound
  stood_on (inr c) sound = closes_stood c sound

besides_run : (ts : List Lexeme) (before : Kind) (s end : State) → Stood before s → Run s ts end → Besides before ts
besides_run [] before s end stood run = tt
besides_run (t ∷ ts) before s end stood run = (beside before s t run.0 stood run.1, besides_run ts t.kind run.0 end (stood_on before s t run.0 stood run.1 (stacks s t run.0 run.1 stood.sound)) run.2)

-- THE LAW
pub besides : (text : List ℕ) (ts : List Lexeme) → Scans text ts → Besides Newline ts
besides text ts scans = besides_run ts Newline (begin text) scans.0 (record {
  sound = record { counted = refl; grounded = refl };
  comment = λ plain k. absurd (cc);
  template = λ plain quoted c. absurd (not_both Expression quoted refl c);
}) scans.1
