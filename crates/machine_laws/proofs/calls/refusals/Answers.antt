use Rattle.std.proofs.Common.{◌≡◌, ℕ, ◌∙◌, ap, refl, Option, Some, None, ◌==◌, arith, true, false, ◌&&◌, is_some, nat_lt}
use Rattle.std.specs.Option.{option_or, unwrap_or}
use Rattle.std.specs.List.{list_all}
use Rattle.napi_types.specs.declared.call.Call.{Call}
use Rattle.napi_types.specs.declared.call.Call.TheVariants as call
use Rattle.napi_types.specs.declared.entry.Out.TheVariants as out
use Rattle.napi_types.specs.declared.status.Status.{Status}
use Rattle.napi_types.specs.declared.status.Status.TheVariants as status
use Rattle.napi_types.specs.plain.Lists.{has_number, singleton, unless}
use Rattle.napi_types.specs.plain.Replies.{plain}
use Rattle.napi_types.specs.parts.HeapRefusals.{kind_refusal, row_refusal}
use Rattle.napi_types.specs.parts.NamedNumbers.{handles_of, texts_of, unknown_refusal}
use Rattle.napi_types.specs.parts.Scopes.{gives}
use Rattle.napi_types.specs.environment.Calls.{answer_unless_deep}
use Rattle.napi_types.specs.environment.Environment.{Environment}
use Rattle.napi_types.specs.environment.Moments.{refusal_by_moment}
use Rattle.napi_types.specs.environment.Refusals.{refusal_before_depth, depth_refusal, group_refusal, refusal_by_state}
use Rattle.machine_laws.specs.CallLaws.{RefusedCallsChangeNothing, RefusesUnknownHandles, RefusesUnknownInEachRow, TakesKnownHandles}
use Rattle.machine_laws.proofs.Naming.{fails-all, passes-all, named-alone, hooks-alone}
use Rattle.machine_laws.proofs.HookNumbers.{known-by-number}
use Rattle.machine_laws.proofs.calls.refusals.Goals as goal

reply-of : (e : Environment) (c : Call) (n : ℕ) (early deep : Option Status) (s : Status) → option_or early deep ≡ Some s → (answer_unless_deep e c n early deep).reply ≡ plain s out.Nothing
reply-of e c n (Some r) None s h = ap (λ o. (answer_unless_deep e c n o None).reply) h
reply-of e c n (Some r) (Some d) s h = ap (λ o. (answer_unless_deep e c n o (Some d)).reply) h
reply-of e c n None (Some d) s h = ap (λ o. (answer_unless_deep e c n None o).reply) h
reply-of e c n None None s h = cc

same-after : (e : Environment) (c : Call) (n : ℕ) (s : Status) (deep : Option Status) → (answer_unless_deep e c n (Some s) deep).after ≡ e
same-after e c n s None = refl
same-after e c n s (Some d) = refl

law : RefusedCallsChangeNothing
law e c n s = record {
  reply = reply-of e c n (refusal_before_depth e c) (depth_refusal e.frames c) s;
  after = λ h. ap (λ o. (answer_unless_deep e c n o (depth_refusal e.frames c)).after) h ∙ same-after e c n s (depth_refusal e.frames c);
  depth = λ none deep. ap (λ o. (answer_unless_deep e c n o (depth_refusal e.frames c)).after) none ∙ ap (λ o. (answer_unless_deep e c n None o).after) deep;
}

pub returns-clause-nothing : goal.returns-clause-nothing
returns-clause-nothing c = law

first-of : (moment deep : Option Status) (s : Status) → option_or (option_or moment (Some s)) deep ≡ Some (unwrap_or moment s)
first-of None deep s = refl
first-of (Some m) deep s = refl

-- what a call answers that is refused before the depth limit
early-reply : (e : Environment) (c : Call) (n : ℕ) (moment deep : Option Status) (s : Status)
    → (answer_unless_deep e c n (option_or moment (Some s)) deep).reply ≡ plain (unwrap_or moment s) out.Nothing
early-reply e c n None None s = refl
early-reply e c n None (Some d) s = refl
early-reply e c n (Some m) None s = refl
early-reply e c n (Some m) (Some d) s = refl

after-of : (e : Environment) (c : Call) (n : ℕ) (moment deep : Option Status) (s : Status) → (answer_unless_deep e c n (option_or moment (Some s)) deep).after ≡ e
after-of e c n None None s = refl
after-of e c n None (Some d) s = refl
after-of e c n (Some m) None s = refl
after-of e c n (Some m) (Some d) s = refl

-- a handle is unknown, so the first refusal of one that comes at a right moment is that of its arguments
unknown-first : (e : Environment) (c : Call) (h : ℕ) → has_number h (handles_of c) ≡ true → gives e.heap.scopes h ≡ None
    → refusal_by_state e c ≡ Some status.InvalidArg
unknown-first e c h here none =
    let all : list_all (λ n. is_some (gives e.heap.scopes n)) (handles_of c) ≡ false =
    fails-all (λ n. is_some (gives e.heap.scopes n)) (handles_of c) h here (ap is_some none) in
    let unknown : unknown_refusal e.texts e.heap c ≡ Some status.InvalidArg =
    ap (λ b. unless (b && list_all (λ t. nat_lt t e.texts) (texts_of c)) status.InvalidArg) all in
    ap (λ s. option_or (option_or s (option_or (kind_refusal e.heap c) (row_refusal e.heap c))) (group_refusal e c)) unknown

unknown : RefusesUnknownHandles
unknown e c h here none =
    let first : refusal_by_state e c ≡ Some status.InvalidArg = unknown-first e c h here none in
    let deep : Option Status = depth_refusal e.frames c in
    record {
      refusal = ap (λ s. option_or (option_or (refusal_by_moment e c) s) deep) first ∙ first-of (refusal_by_moment e c) deep status.InvalidArg;
      reply = λ n. ap (λ s. (answer_unless_deep e c n (option_or (refusal_by_moment e c) s) deep).reply) first ∙ early-reply e c n
          (refusal_by_moment e c) deep status.InvalidArg;
      after = λ n. ap (λ s. (answer_unless_deep e c n (option_or (refusal_by_moment e c) s) deep).after) first ∙ after-of e c n
          (refusal_by_moment e c) deep status.InvalidArg;
    }

-- a handle is among those of a call that names it alone
named : (h : ℕ) → has_number h (singleton h) ≡ true
named h = rw (itself h) refl
  where
    itself : (h : ℕ) → (h == h) ≡ true
    itself h = grind arith

rows : RefusesUnknownInEachRow
rows e h none = record {
  typeof = unknown e (call.Typeof h) h.0 (named h.0) none;
  external = unknown e (call.GetValueExternal h) h.0 (named h.0) none;
  wrap = λ payload finalizer hint ref. unknown e (call.Wrap h payload finalizer hint ref) h.0 (named h.0) none;
  unwrap = unknown e (call.Unwrap h) h.0 (named h.0) none;
  remove = unknown e (call.RemoveWrap h) h.0 (named h.0) none;
  tag = λ lower upper. unknown e (call.TypeTagObject h lower upper) h.0 (named h.0) none;
  check = λ lower upper. unknown e (call.CheckObjectTypeTag h lower upper) h.0 (named h.0) none;
  finalizer = λ payload finalizer hint ref. unknown e (call.AddFinalizer h payload finalizer hint ref) h.0 (named h.0) none;
  function = λ entry most initial finalizer context.
      unknown e (call.CreateThreadsafeFunction (Some h) entry most initial finalizer context) h.0 (named h.0) none;
}

known : TakesKnownHandles
known e c handles texts =
    ap (λ b. unless (b && list_all (λ t. nat_lt t e.texts) (texts_of c)) status.InvalidArg)
    (passes-all (λ h. is_some (gives e.heap.scopes h)) (handles_of c) handles)
    ∙ ap (λ b. unless b status.InvalidArg) (passes-all (λ t. nat_lt t e.texts) (texts_of c) texts)

pub returns-clause-unknown : goal.returns-clause-unknown
returns-clause-unknown c = unknown

pub returns-clause-rows : goal.returns-clause-rows
returns-clause-rows c = rows

pub returns-clause-known : goal.returns-clause-known
returns-clause-known c = known

pub returns-clause-references : goal.returns-clause-references
returns-clause-references c = named-alone

pub returns-clause-hooks : goal.returns-clause-hooks
returns-clause-hooks c = hooks-alone

pub returns-clause-numbers : goal.returns-clause-numbers
returns-clause-numbers c = known-by-number
