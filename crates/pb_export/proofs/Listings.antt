-- The lines of a listing, one setup after another.
use Rattle.std.proofs.Common.{◌≡◌, ℕ, ◌+◌, ◌<◌, ◌≤◌, Err, List, Ok, [], ◌∷◌, ◌++◌, length, take, drop, get_or, append_assoc, sym, ap, subst, ◌∙◌, inl, refl}
use Rattle.std.specs.Prelude.{flat_map}
use Rattle.std.specs.Io.KnownBytes.{Appends}
use Rattle.std.proofs.KnownBytes.{Appends-nil, Appends-trans}
use Rattle.std.proofs.lemmas.Grind.{flat_map-append}
use Rattle.std.proofs.lemmas.List.{flat_map_more, take-append-drop, take_all, take_more}
use Rattle.pb_io.specs.Sink.{AwaitsFlush, Put, SinkState}
use Rattle.pb_io.specs.declared.source.Failed.{Failed}
use Rattle.pb_io.proofs.FlushLemmas.{AwaitsFlush-put, AwaitsFlush-trans, not_flushed}
use Rattle.pb_export.specs.Setups.{PutsFront, PutsListing, book_line, lines_of, text_of, moves_of}
use Rattle.pb_export.specs.declared.exporting.ExportFault.TheVariants as fault
use Rattle.pb_export.specs.declared.setups.Listing.{Listing}
use Rattle.pb_export.specs.declared.setups.ListedSetup.{ListedSetup}

module _ (listing : Listing) where
  abbrev items : List ListedSetup
  items = listing.setups.items

  abbrev line : ListedSetup → List ℕ
  line x = book_line x.fields (moves_of listing.moves.items x)

  abbrev pub front : ℕ → List ℕ
  front i = lines_of listing.moves.items (take i listing.setups.items)

  abbrev back : ℕ → List ℕ
  back i = lines_of listing.moves.items (drop i listing.setups.items)

  cut : (i : ℕ) → text_of listing ≡ front i ++ back i
  cut i = ap (flat_map line) (sym (take-append-drop i items)) ∙ flat_map-append line (take i items) (drop i items)

  front_more : (i : ℕ) (d x : ListedSetup) → i < length items → x ≡ get_or items i d → front i ++ line x ≡ front (i + 1)
  front_more i d x lt at = flat_map_more line [] (take i items) x ∙ ap (flat_map line) (sym (take_more items i d lt ∙ ap (λ y. take i items ++ y ∷ []) (sym at)))

  -- the lines of the first setups have been put
  pub record Putting (sink now : SinkState) (i : ℕ) : Type 0 where
    pub put : Appends sink.bytes now.bytes (front i)
    pub awaits : AwaitsFlush sink now

  pub Putting-none : (sink : SinkState) → Putting sink sink 0
  Putting-none sink = record { put = Appends-nil sink.bytes; awaits = inl refl }

  module _ (sink now : SinkState) (i : ℕ) (h : Putting sink now i) where
    pub Putting-all : (count : ℕ) → length items ≤ i → count ≡ length items → PutsListing listing sink now count
    Putting-all count past many = record {
      counted = many;
      put = subst (λ (xs : List ListedSetup). Appends sink.bytes now.bytes (lines_of listing.moves.items xs)) (take_all i items past) h.put;
      awaits = h.awaits;
    }

    -- no memory for a line
    pub Putting-memory : PutsFront listing sink now fault.Memory
    Putting-memory = record { some = front i; rest = back i; text = cut i; put = h.put; cause = h.awaits }

    module _ (new : SinkState) (d x : ListedSetup) (bytes : List ℕ) (lt : i < length items) (at : x ≡ get_or items i d) (is : bytes ≡ line x) where
      next : front i ++ bytes ≡ front (i + 1)
      next = ap (λ w. front i ++ w) is ∙ front_more i d x lt at

      pub Putting-more : (v : Unit {0}) → Put {E = Failed} now new (Ok v) bytes → Putting sink new (i + 1)
      Putting-more v put = record {
        put = subst (Appends sink.bytes new.bytes) next (Appends-trans sink.bytes now.bytes new.bytes (front i) bytes h.put put.all);
        awaits = AwaitsFlush-trans sink now new h.awaits (AwaitsFlush-put now new v bytes put);
      }

      -- a line that couldn't be put
      pub Putting-fails : (e : Failed) → Put {E = Failed} now new (Err e) bytes → PutsFront listing sink new fault.Write
      Putting-fails e put =
          let n = put.front.0 in record {
            some = front i ++ take n bytes;
            rest = drop n bytes ++ back (i + 1);
            text = cut (i + 1) ∙ ap (λ w. w ++ back (i + 1)) (sym next ∙ ap (λ w. front i ++ w) (sym (take-append-drop n bytes)) ∙ sym (append_assoc (front i) (take n bytes) (drop n bytes)))
                ∙ append_assoc (front i ++ take n bytes) (drop n bytes) (back (i + 1));
            put = Appends-trans sink.bytes now.bytes new.bytes (front i) (take n bytes) h.put put.front.1;
            cause = (put.failed, put.flushed, put.flushes ∙ not_flushed sink now h.awaits);
          }
