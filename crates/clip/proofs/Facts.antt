-- A section that was read, taken back step by step (layout, Inversion): each part begins where the one before ends, so the records and the
-- states stand one behind the other, and in the lent bytes, since the ending behind them was read. Assumes nothing.
use Prim.Native.Nat.{ℕ, zero, suc, ◌+◌, ◌*◌, ◌≤◌}
use native.Mathlib.Nat.{suc-mul, zero-mul}
use native.Mathlib.Omega.{arith}
use mathlib.Core.Bool.{Bool, true, false, cond}
use mathlib.Core.List.{List, [], ◌∷◌}
use mathlib.Core.Path.{◌≡◌, refl, sym, ◌∙◌, subst}
use lib.Dec.{leb, ltb}
use lib.ListN.{length}
use Rattle.layout.specs.Refusals.{too_short, negative_count, too_long, count_above_limit}
use Rattle.layout.specs.Numbers.{negative}
use Rattle.layout.specs.Walk.{fine, refused, refusal, refused_at, item, block, items, times, count, string, fixed_string, bool, u32, u8, unlimited}
use Rattle.layout.specs.Records.{size, initial, additional, bone, morph, model, bone_state, morph_state, constraint_state, parent_state}
use Rattle.layout.proofs.Inversion.{Reads, came, counted, same-value, item-fits}
use Rattle.layout.proofs.Steps.{read_as}
use Rattle.section.specs.declared.limits.Limits.{Limits}
use Rattle.section.specs.Model.{opening, names, counted_block, counts, view, scroll, front, keyframes, keyframe_blocks, states, ending, model_parts, model_section}
use Rattle.section.specs.declared.opening.Opening.{Opening}
use Rattle.section.specs.declared.names.Names.{Names}
use Rattle.section.specs.declared.names.Counts.{Counts}
use Rattle.section.specs.declared.keyframes.Keyframes.{Keyframes}
use Rattle.section.specs.declared.keyframes.KeyframeBlocks.{KeyframeBlocks}
use Rattle.section.specs.declared.closing.States.{States}
use Rattle.section.specs.declared.closing.Ending.{Ending}
use Rattle.section.specs.declared.model.Front.{Front}
use Rattle.section.specs.declared.model.Model.{Model}

same_next : {A : Type 0} {a b : A} {n m : ℕ} → fine a n ≡ fine b m → n ≡ m
same_next e = cc

item-ends : {A : Type 0} (width : ℕ) (value : List ℕ → ℕ → A) (s : List ℕ) (at : ℕ) (a : A) (next : ℕ) → item width value s at ≡ fine a next → next ≡ at + width
unfolding item
item-ends {A} width value s at a next e = go (leb (at + width) (length s)) e
  where
    go : (b : Bool) → cond b (fine (value s at) (at + width)) (refused_at too_short at) ≡ fine a next → next ≡ at + width
    go true e = sym (same_next e)
    go false e = absurd (let z : ◌≡◌ {A = ℕ} 0 1 = cc in omega arith)

pub items-end : (widths s : List ℕ) (at next : ℕ) → items widths s at ≡ fine tt next → next ≡ at + size widths
unfolding items size
items-end [] s at next e = let n = same_next e in omega (arith, n)
items-end (width ∷ widths) s at next e =
    let c = came (block width s at) _ tt next e in
    let first = item-ends width _ s at _ c.at c.first in
    let rest = items-end widths s c.at next c.rest in
    omega (arith, first, rest)

times-end : (n : ℕ) (widths s : List ℕ) (at next : ℕ) → times n (items widths) s at ≡ fine tt next → next ≡ at + n * size widths
unfolding times
times-end zero widths s at next e = let n = same_next e in rw zero-mul (omega (arith, n))
times-end (suc n) widths s at next e =
    let c = came (items widths s at) _ tt next e in
    let first = items-end widths s at c.at (subst (λ (u : Unit {0}). items widths s at ≡ fine u c.at) refl c.first) in
    let rest = times-end n widths s c.at next c.rest in
    omega (arith, first, rest, suc-mul n (size widths))

count-ends : (limit : ℕ) (s : List ℕ) (at n next : ℕ) → count limit s at ≡ fine n next → next ≡ at + 4
unfolding count
count-ends limit s at n next e =
    let back = came (u32 s at) _ n next e in
    let first = item-ends 4 _ s at _ back.at back.first in
    go (negative back.value) (ltb limit back.value) back.value back.at first back.rest
  where
    go : (high above : Bool) (m after : ℕ) → after ≡ at + 4 → cond high (refused_at negative_count at) (cond above (refused_at count_above_limit at) (fine m after)) ≡ fine n next → next ≡ at + 4
    go true above m after first e = absurd (let z : ◌≡◌ {A = ℕ} 0 1 = cc in omega arith)
    go false true m after first e = absurd (let z : ◌≡◌ {A = ℕ} 0 1 = cc in omega arith)
    go false false m after first e = sym (same_next e) ∙ first

-- The two blocks of a kind of record.
pub record Block (tracks initial_size additional_size most at next : ℕ) (k : Keyframes) : Type 0 where
  pub begins : k.initial_offset ≡ at
  pub offset : k.offset ≡ at + tracks * initial_size + 4
  pub ends : next ≡ k.offset + k.count * additional_size
  pub within : k.count ≤ most

pub block-is : (tracks : ℕ) (initial_items additional_items : List ℕ) (limit : ℕ) (s : List ℕ) (at : ℕ) (k : Keyframes) (next : ℕ) → keyframes tracks initial_items additional_items limit s at ≡ fine k next → Block tracks (size initial_items) (size additional_items) limit at next k
unfolding keyframes
block-is tracks initial_items additional_items limit s at k next e =
    let a = came (times tracks (items initial_items) s at) _ k next e in
    let c = came (count limit s a.at) _ k next a.rest in
    let f = came (times c.value (items additional_items) s c.at) _ k next c.rest in
    let made : Keyframes = record { initial_offset = at; count_offset = a.at; offset = c.at; end_offset = f.at; count = c.value } in
    let is : made ≡ k = same-value f.rest in
    let ends = same_next f.rest in
    let e1 = times-end tracks initial_items s at a.at a.first in
    let e2 = count-ends limit s a.at c.value c.at c.first in
    let e3 = times-end c.value additional_items s c.at f.at f.first in
    subst (λ (k : Keyframes). Block tracks (size initial_items) (size additional_items) limit at next k) is
    (record {
      begins = refl;
      offset = omega (arith, e1, e2);
      ends = sym ends ∙ e3;
      within = (counted limit s a.at c.value c.at c.first).within;
    })

-- The states, one list behind the other.
pub record StateLists (c : Counts) (at next : ℕ) (v : States) : Type 0 where
  pub bones : v.bones ≡ at
  pub morphs : v.morphs ≡ v.bones + c.bones.count * size bone_state
  pub constraints : v.constraints ≡ v.morphs + c.morphs.count * size morph_state
  pub parents : v.parents ≡ v.constraints + c.constraints * size constraint_state
  pub ends : next ≡ v.parents + c.parents * size parent_state

-- The name, the English name and the path.
pub record TextsRead (s : List ℕ) (o : Opening) : Type 0 where
  pub name : Reads (string s o.name_offset)
  pub english_name : Reads (string s o.english_name_offset)
  pub path : Reads (fixed_string 256 s o.path_offset)

-- A count and its names.
pub record NamesRead (limit : ℕ) (s : List ℕ) (n : Names) : Type 0 where
  pub end : ℕ
  pub read : times n.count string s n.offset ≡ fine tt end
  pub within : n.count ≤ limit

-- The items of a model record.
abbrev pub model_items : Counts → List ℕ
model_items c = model c.constraints c.parents

-- The texts, the names, the blocks of bones, morphs and model records, and the states behind them.
pub record Blocks (limits : Limits) (s : List ℕ) (m : Model) : Type 0 where
  pub at : ℕ
  pub between : ℕ
  pub end : ℕ
  pub behind : ℕ
  pub last : ℕ
  pub texts : TextsRead s m.front.opening
  pub bone_names : NamesRead limits.tracks s m.front.counts.bones
  pub morph_names : NamesRead limits.tracks s m.front.counts.morphs
  pub bones : Block m.front.counts.bones.count (size (initial bone)) (size (additional bone)) limits.additional at between m.keyframes.bones
  pub morphs : Block m.front.counts.morphs.count (size (initial morph)) (size (additional morph)) limits.additional between end m.keyframes.morphs
  pub models : Block 1 (size (initial (model_items m.front.counts))) (size (additional (model_items m.front.counts))) unlimited end behind m.keyframes.models
  pub states : StateLists m.front.counts behind last m.states
  pub within : end ≤ length s
  pub whole : last ≤ length s

names-read : (limit : ℕ) (s : List ℕ) (at : ℕ) (n : Names) (next : ℕ) → names limit s at ≡ fine n next → NamesRead limit s n
unfolding names
names-read limit s at n next e =
    let c = came (count limit s at) _ n next e in
    let t = came (times c.value string s c.at) _ n next c.rest in
    let made : Names = record { count = c.value; offset = c.at } in
    let is : made ≡ n = same-value t.rest in
    subst (λ (n : Names). NamesRead limit s n) is
    (record { end = t.at; read = t.first; within = (counted limit s at c.value c.at c.first).within })

texts-read : (s : List ℕ) (at : ℕ) (o : Opening) (next : ℕ) → opening s at ≡ fine o next → TextsRead s o
unfolding opening
texts-read s at o next e =
    let index = came (u8 s at) _ o next e in
    let name = came (string s index.at) _ o next index.rest in
    let english = came (string s name.at) _ o next name.rest in
    let path = came (block 256 s english.at) _ o next english.rest in
    let ignored = came (u8 s path.at) _ o next path.rest in
    subst (λ (o : Opening). TextsRead s o) (same-value ignored.rest)
    (record {
      name = record { value = name.value; to = name.at; is = name.first };
      english_name = record { value = english.value; to = english.at; is = english.first };
      path = record { value = _; to = path.at; is = read_as 256 _ s english.at path.at path.first };
    })

-- The names of bones and of morphs.
abbrev BothRead : Limits → List ℕ → Counts → Type 0
BothRead limits s c = NamesRead limits.tracks s c.bones × NamesRead limits.tracks s c.morphs

counts-read : (limits : Limits) (s : List ℕ) (at : ℕ) (c : Counts) (next : ℕ) → counts limits s at ≡ fine c next → BothRead limits s c
unfolding counts
counts-read limits s at c next e =
    let bones = came (names limits.tracks s at) _ c next e in
    let morphs = came (names limits.tracks s bones.at) _ c next bones.rest in
    let constraints = came (counted_block s morphs.at) _ c next morphs.rest in
    let parents = came (counted_block s constraints.at) _ c next constraints.rest in
    let made : Counts = record { bones = bones.value; morphs = morphs.value; constraints = constraints.value; parents = parents.value } in
    let is : made ≡ c = same-value parents.rest in
    subst (λ (c : Counts). BothRead limits s c) is
    (names-read limits.tracks s at bones.value bones.at bones.first, names-read limits.tracks s bones.at morphs.value morphs.at morphs.first)

front_read : (limits : Limits) (s : List ℕ) (at : ℕ) (f : Front) (next : ℕ) → front limits s at ≡ fine f next → TextsRead s f.opening × BothRead limits s f.counts
unfolding front
front_read limits s at f next e =
    let o = came (opening s at) _ f next e in
    let c = came (counts limits s o.at) _ f next o.rest in
    let v = came (view s c.at) _ f next c.rest in
    let r = came (scroll s v.at) _ f next v.rest in
    let made : Front = record { opening = o.value; counts = c.value; view = v.value; scroll = r.value } in
    let is : made ≡ f = same-value r.rest in
    subst (λ (f : Front). TextsRead s f.opening × BothRead limits s f.counts) is
    (texts-read s at o.value o.at o.first, counts-read limits s o.at c.value c.at c.first)

-- The records of a model follow those of the morphs.
record ThreeBlocks (limits : Limits) (c : Counts) (at next : ℕ) (k : KeyframeBlocks) : Type 0 where
  pub between : ℕ
  pub end : ℕ
  pub bones : Block c.bones.count (size (initial bone)) (size (additional bone)) limits.additional at between k.bones
  pub morphs : Block c.morphs.count (size (initial morph)) (size (additional morph)) limits.additional between end k.morphs
  pub models : Block 1 (size (initial (model_items c))) (size (additional (model_items c))) unlimited end next k.models

three-blocks : (limits : Limits) (c : Counts) (s : List ℕ) (at : ℕ) (k : KeyframeBlocks) (next : ℕ) → keyframe_blocks limits c s at ≡ fine k next → ThreeBlocks limits c at next k
unfolding keyframe_blocks
three-blocks limits c s at k next e =
    let bones = came (keyframes c.bones.count (initial bone) (additional bone) limits.additional s at) _ k next e in
    let morphs = came (keyframes c.morphs.count (initial morph) (additional morph) limits.additional s bones.at) _ k next bones.rest in
    let models = came (keyframes 1 (initial (model_items c)) (additional (model_items c)) unlimited s morphs.at) _ k next morphs.rest in
    let made : KeyframeBlocks = record { bones = bones.value; morphs = morphs.value; models = models.value } in
    let is : made ≡ k = same-value models.rest in
    let last = block-is 1 (initial (model_items c)) (additional (model_items c)) unlimited s morphs.at models.value models.at models.first in
    subst (λ (k : KeyframeBlocks). ThreeBlocks limits c at next k) is
    (record {
      between = bones.at;
      end = morphs.at;
      bones = block-is c.bones.count (initial bone) (additional bone) limits.additional s at bones.value bones.at bones.first;
      morphs = block-is c.morphs.count (initial morph) (additional morph) limits.additional s bones.at morphs.value morphs.at morphs.first;
      models = record { begins = last.begins; offset = last.offset; ends = sym (same_next models.rest) ∙ last.ends; within = last.within };
    })

-- The states stand behind the records, and the first item behind them is whole.
state-lists : (c : Counts) (s : List ℕ) (at : ℕ) (v : States) (next : ℕ) → states c s at ≡ fine v next → StateLists c at next v
unfolding states
state-lists c s at v next e =
    let a = came (times c.bones.count (items bone_state) s at) _ v next e in
    let b = came (times c.morphs.count (items morph_state) s a.at) _ v next a.rest in
    let d = came (times c.constraints (items constraint_state) s b.at) _ v next b.rest in
    let f = came (times c.parents (items parent_state) s d.at) _ v next d.rest in
    let made : States = record { bones = at; morphs = a.at; constraints = b.at; parents = d.at } in
    let is : made ≡ v = same-value f.rest in
    subst (λ (v : States). StateLists c at next v) is
    (record {
      bones = refl;
      morphs = times-end c.bones.count bone_state s at a.at a.first;
      constraints = times-end c.morphs.count morph_state s a.at b.at b.first;
      parents = times-end c.constraints constraint_state s b.at d.at d.first;
      ends = sym (same_next f.rest) ∙ times-end c.parents parent_state s d.at f.at f.first;
    })

ending-within : (s : List ℕ) (at : ℕ) (v : Ending) (next : ℕ) → ending s at ≡ fine v next → at ≤ length s
unfolding ending
ending-within s at v next e =
    let a = came (bool s at) _ v next e in
    let b = came (u8 s at) _ a.value a.at a.first in
    let fits = item-fits 1 _ s at b.value b.at b.first in
    omega (arith, fits)

pub blocks : (limits : Limits) (s : List ℕ) (start : ℕ) (m : Model) (end : ℕ) → model_section limits s start ≡ fine m end → Blocks limits s m
unfolding model_section model_parts
blocks limits s start m end e = go (ltb limits.bytes (length s)) e
  where
    parts : model_parts limits s start ≡ fine m end → Blocks limits s m
    parts e =
        let f = came (front limits s start) _ m end e in
        let k = came (keyframe_blocks limits f.value.counts s f.at) _ m end f.rest in
        let t = came (states f.value.counts s k.at) _ m end k.rest in
        let d = came (ending s t.at) _ m end t.rest in
        let made : Model = record { front = f.value; keyframes = k.value; states = t.value; ending = d.value } in
        let is : made ≡ m = same-value d.rest in
        let read = front_read limits s start f.value f.at f.first in
        let three = three-blocks limits f.value.counts s f.at k.value k.at k.first in
        let lists = state-lists f.value.counts s k.at t.value t.at t.first in
        let whole = ending-within s t.at d.value d.at d.first in
        subst (λ (m : Model). Blocks limits s m) is
        (record {
          at = f.at;
          between = three.between;
          end = three.end;
          behind = k.at;
          last = t.at;
          texts = read.0;
          bone_names = read.1.0;
          morph_names = read.1.1;
          bones = three.bones;
          morphs = three.morphs;
          models = three.models;
          states = lists;
          within = omega (arith, three.models.offset, three.models.ends, lists.bones, lists.morphs, lists.constraints, lists.parents, lists.ends, whole);
          whole = whole;
        })

    go : (b : Bool) → cond b (refused (refusal too_long [])) (model_parts limits s start) ≡ fine m end → Blocks limits s m
    go true e = absurd (let z : ◌≡◌ {A = ℕ} 0 1 = cc in omega arith)
    go false e = parts e
