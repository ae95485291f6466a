-- A state each thing of which is one of a sound state is sound.
use Rattle.std.specs.Prelude.{◌≡◌, ℕ, is_some, Contains}
use Rattle.std.proofs.Common.{subst, sym, ap, ◌∙◌}
use Rattle.std.specs.List.{list_any}
use Rattle.kernel_model.specs.Handlers.{is_handler, AreHandlers}
use Rattle.kernel_model.specs.declared.Object.{Object}
use Rattle.kernel_model.specs.declared.Object.TheVariants.{Graft, Cell, OpenFile, Queue, Cache, Lock, Pol}
use Rattle.kernel_model.specs.World.{World}
use Rattle.kernel_model.specs.Objects.{Objects, Things, CacheValue, SameThing}
use Rattle.kernel_model.specs.Policies.{lives}
use Rattle.kernel_model.specs.Sound.{IsSoundStore, IsSoundPolicy, count_of, once_if, in_queue}

-- a sound state in which the same processes live has the same value of an object
pub record Source (v : World) (t : Things) (o : Object) : Type 0 where
  pub state : Objects
  pub store : IsSoundStore v state
  pub living : (q : ℕ) → lives state.things.queue q ≡ lives t.queue q
  pub same : SameThing o state.things t

pub mixed_sound : (v : World) (s : Objects) (t : Things) → IsSoundStore v s →
    ((q : ℕ) → lives s.things.queue q ≡ lives t.queue q) → ((o : Object) → Source v t o) →
    IsSoundStore v (record { accounts = s.accounts; things = t })
mixed_sound v s t sound living source =
    record {
      world = sound.world;
      root = sym (living 0) ∙ sound.root;
      once =
          λ p. subst (λ queue. count_of p (in_queue queue) ≡ once_if (lives queue p))
          (source Queue).same.0 ((source Queue).store.once p);
      numbers = λ p alive. sound.numbers p (living p ∙ alive);
      nices =
          λ r among. (source Queue).store.nices r
          (subst (λ queue. Contains queue r) (sym (source Queue).same.0) among);
      in_use =
          λ f. subst (λ (c : CacheValue). count_of f c.lru ≡ once_if (is_some (c.frame f)))
          (source Cache).same ((source Cache).store.in_use f);
      frame_numbers =
          λ f e. (source Cache).store.frame_numbers f
          (ap (λ (c : CacheValue). is_some (c.frame f)) (source Cache).same ∙ e);
      one_frame =
          λ f g x y e h b. (source Cache).store.one_frame f g x y
          (ap (λ (c : CacheValue). c.frame f) (source Cache).same ∙ e)
          (ap (λ (c : CacheValue). c.frame g) (source Cache).same ∙ h) b;
      frames = λ f x e.
          let h = (source Cache).store.frames f x (ap (λ (c : CacheValue). c.frame f) (source Cache).same ∙ e) in
          record {
            owner = sym ((source Cache).living x.owner) ∙ h.owner;
            block = h.block;
            mark = h.mark;
            bytes = h.bytes;
          };
      holders = λ u p e.
          let h = (source (Lock u)).store.holders u p ((source (Lock u)).same ∙ e) in
          (h.0, sym ((source (Lock u)).living p) ∙ h.1);
      grafts = λ q pt g e. let h = sound.grafts q pt g e in (h.0, sym (living q) ∙ h.1);
      gone = λ p dead. record {
        cells =
            λ k. sym (source (Cell p k)).same
            ∙ ((source (Cell p k)).store.gone p ((source (Cell p k)).living p ∙ dead)).cells k;
        files =
            λ fd. sym (source (OpenFile p fd)).same ∙ ((source (OpenFile p fd)).store.gone p
            ((source (OpenFile p fd)).living p ∙ dead)).files fd;
        balances = (sound.gone p (living p ∙ dead)).balances;
        spent = (sound.gone p (living p ∙ dead)).spent;
      };
      files = λ p fd o e. (source (OpenFile p fd)).store.files p fd o ((source (OpenFile p fd)).same ∙ e);
      policies =
          λ kind low. subst (IsSoundPolicy kind) (source (Pol kind)).same
          ((source (Pol kind)).store.policies kind low);
      handlers = subst AreHandlers (source Queue).same.1 (source Queue).store.handlers;
      handlers_live = λ q pt e.
          sym ((source Queue).living q) ∙ (source Queue).store.handlers_live q pt
          (ap (λ hs. list_any (is_handler q pt) hs) (source Queue).same.1 ∙ e);
      segments = λ q pt out. sym (source (Graft q pt)).same ∙ (source (Graft q pt)).store.segments q pt out;
      ledgers = sound.ledgers;
    }
