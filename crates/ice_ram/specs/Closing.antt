-- Machines that are closed by memories.

-- One step of a machine that memories close: `joined` adds what the memories show in their state to the levels from outside, and the
-- memories then take what the machine shows. What they take is seen from the next step on.
abbrev pub closed : {S M I O K : Type 0} → (S → I → S × O) → (K → M → I) → (M → O → M) → S × M → K → (S × M) × O
closed step joined takes state levels =
    (((step state.0 (joined levels state.1)).0, takes state.1 (step state.0 (joined levels state.1)).1), (step state.0 (joined levels state.1)).1)
